-- What `parse` answers where the parser halts.
use Rattle.std.proofs.Common.{◌≡◌, ◌⊎◌, ◌∙◌, ℕ, Result, Ok, Err, List, length, refl, sym, ap, subst, inl, inr}
use Rattle.idl_parse.specs.Faults.{byte_of, IsFault}
use Rattle.idl_parse.specs.Grammar.{IsFile}
use Rattle.idl_parse.specs.Parsed.{IsFaultOf, IsRead, IsRefused, HasFault}
use Rattle.idl_parse.specs.ReadSteps.{Stop, Fails, file_at}
use Rattle.idl_parse.specs.declared.parse_fault.ParseFault.{ParseFault}
use Rattle.idl_parse.specs.declared.parse_fault.ParseFault.TheVariants as faults
use Rattle.idl_parse.specs.declared.parse_fault.ParseWhy.{ParseWhy}
use Rattle.idl_parse.specs.declared.parser.halt.Halt.{Halt}
use Rattle.idl_parse.specs.declared.parser.halt.Halt.TheVariants as halts
use Rattle.idl_lex.specs.declared.token.Token.{Token}
use Rattle.idl_parse.specs.declared.tree.module.Entry.{Entry}
use Rattle.idl_parse.proofs.Parsing.Stopping.FaultLaws.{file_fault}
use Rattle.idl_parse.proofs.Parsing.Deriving.FileLaws.{file_sound, file_complete, entries_of, not_both}
use Rattle.idl_parse.proofs.Parsing.Stopping.OneFault.{one_fault}

pub no_file : (end : ℕ) (ts left : List Token) (halt : Halt) (fault : ParseFault) → Fails halt left (file_at 16 ts) → IsFaultOf end left halt fault → (entries : List Entry) → IsFile 16 ts entries → IsRead (Err fault) entries
no_file end ts left halts.Memory fault fails is entries file = subst (λ f. IsRead (Err f) entries) (sym is) tt
no_file end ts left (halts.Grammar why) fault fails is entries file = absurd (not_both (file_complete 15 ts entries file) fails)

-- where reading stops is the fault of the tokens
fault_is : (end : ℕ) (ts left : List Token) (why : ParseWhy) → file_at 16 ts ≡ Err (record { left = left; why = why }) → IsFault 16 end ts (byte_of end left) why
fault_is end ts left why failed =
    let f = file_fault 15 ts left why failed in
    record { no_file = λ entries file. not_both (file_complete 15 ts entries file) failed; index = f.0; byte = ap (byte_of end) (sym f.1); stops = f.2 }

pub true_fault : (text : List ℕ) (ts left : List Token) (halt : Halt) (fault : ParseFault) → Fails halt left (file_at 16 ts) → IsFaultOf (length text) left halt fault → HasFault 16 text ts (Err fault)
true_fault text ts left halts.Memory fault fails is = subst (λ f. HasFault 16 text ts (Err f)) (sym is) tt
true_fault text ts left (halts.Grammar why) fault fails is = subst (λ g. HasFault 16 text ts (Err g)) (sym is) (fault_is (length text) ts left why fails)

-- a fault that the tokens have is the one that is told
told_fault : (text : List ℕ) (ts : List Token) (fault : ParseFault) → HasFault 16 text ts (Err fault) → (at : ℕ) (why : ParseWhy) → IsFault 16 (length text) ts at why → IsRefused (Err fault) at why
told_fault text ts faults.Memory has at why is = tt
told_fault text ts (faults.Bad index reason) has at why is = one_fault 16 (length text) ts index at reason why has is

pub refused_fault : (text : List ℕ) (ts left : List Token) (halt : Halt) (fault : ParseFault) → Fails halt left (file_at 16 ts) → IsFaultOf (length text) left halt fault
    → (at : ℕ) (why : ParseWhy) → IsFault 16 (length text) ts at why → IsRefused (Err fault) at why
refused_fault text ts left halt fault fails is at why has = told_fault text ts fault (true_fault text ts left halt fault fails is) at why has

-- ---- one outcome

pub some_tree : (end : ℕ) (ts : List Token) → ((entries : List Entry) × IsFile 16 ts entries) ⊎ ((at : ℕ) × (why : ParseWhy) × IsFault 16 end ts at why)
some_tree end ts = by_read (file_at 16 ts) refl
  where
    by_read : (read : Result (List Entry) Stop) → file_at 16 ts ≡ read → ((entries : List Entry) × IsFile 16 ts entries) ⊎ ((at : ℕ) × (why : ParseWhy) × IsFault 16 end ts at why)
    by_read (Ok entries) is = inl (entries, file_sound 15 ts entries is)
    by_read (Err stop) is = inr (byte_of end stop.left, stop.why, fault_is end ts stop.left stop.why is)

pub one_file : (ts : List Token) (a b : List Entry) → IsFile 16 ts a → IsFile 16 ts b → a ≡ b
one_file ts a b first second = entries_of (sym (file_complete 15 ts a first) ∙ file_complete 15 ts b second)
