-- Where a value inside another starts, fewer bytes are left.
use Rattle.std.proofs.Common.{◌≡◌, ◌≤◌, ◌<◌, ℕ, List, ◌∷◌, length, length-append, sym, subst, arith}
use Rattle.tars_model.specs.Declarations.{Declared}
use Rattle.tars_model.specs.Values.{Key}
use Rattle.tars_model.specs.declared.member.Member.{Member}
use Rattle.tars_model.specs.declared.ty.Ty.{Ty}
use Rattle.value_text.specs.Faults.{AfterElements, AfterEntries, AfterMembers, Opens, Reaches}
use Rattle.value_text.specs.Faults as faults
use Rattle.value_text.specs.Spelling.{past_gap}
use Rattle.value_text.proofs.Signs.{past_gap_shorter}
use Rattle.value_text.proofs.Suffixes.{EndsWith, whole, after, further, past_gap_ends, gap_ends, value_ends, entry_ends}

-- what follows a comma
comma_leads : (next inside : List ℕ) → past_gap next ≡ 44 ∷ inside → EndsWith next (past_gap inside)
comma_leads next inside comma = further (gap_ends 44 next inside comma) (past_gap_ends inside)

elements_lead : {d : Declared} {of : Ty} {bytes here : List ℕ} → AfterElements d of bytes here → EndsWith bytes here
elements_lead {bytes = bytes} faults.no_element = whole bytes
elements_lead (faults.one_element next inside is comma others) = further (value_ends is) (further (comma_leads next inside comma) (elements_lead others))

entries_lead : {d : Declared} {key to : Ty} {before keys : List Key} {bytes here : List ℕ} → AfterEntries d key to before bytes keys here → EndsWith bytes here
entries_lead {bytes = bytes} faults.no_entry = whole bytes
entries_lead (faults.one_entry next inside is fresh comma others) = further (entry_ends is) (further (comma_leads next inside comma) (entries_lead others))

members_lead : {d : Declared} {ms left : List Member} {bytes here : List ℕ} → AfterMembers d ms bytes left here → EndsWith bytes here
members_lead {bytes = bytes} faults.no_member = whole bytes
members_lead {bytes = bytes} (faults.one_member {m = m} equals start next inside name sign is comma others) =
    further (after m.name bytes equals name) (further (gap_ends 61 equals start sign) (further (past_gap_ends start) (further (value_ends is) (further (comma_leads next inside comma) (members_lead others)))))

ends_within : {bytes rest : List ℕ} → EndsWith bytes rest → length rest ≤ length bytes
ends_within {bytes = bytes} {rest = rest} e = let len = length-append e.front rest in rw e.is (omega arith)

-- a sign, and after it and its gap what ends with the rest
record Inside (bytes rest : List ℕ) : Type 0 where
  sign : ℕ
  inside : List ℕ
  is : bytes ≡ sign ∷ inside
  ends : EndsWith (past_gap inside) rest

opens_inside : {d : Declared} {t u : Ty} {bytes here : List ℕ} → Opens d t bytes u here → Inside bytes here
opens_inside (faults.element inside is other text elements) = record { sign = 91; inside = inside; is = text; ends = elements_lead elements }
opens_inside (faults.key o) = record { sign = 123; inside = o.inside; is = o.text; ends = entries_lead o.entries }
opens_inside (faults.value start colon next o key_is fresh sign is) = record {
  sign = 123;
  inside = o.inside;
  is = o.text;
  ends = subst (EndsWith (past_gap o.inside)) (sym is) (further (entries_lead o.entries) (further (value_ends key_is) (further (gap_ends 58 colon next sign) (past_gap_ends next))));
}
opens_inside (faults.member {m = m} number inside start equals next is text members name sign here_is) = record {
  sign = 40;
  inside = inside;
  is = text;
  ends = subst (EndsWith (past_gap inside)) (sym here_is) (further (members_lead members) (further (after m.name start equals name) (further (gap_ends 61 equals next sign) (past_gap_ends next))));
}

pub opens_shorter : {d : Declared} {t u : Ty} {bytes here : List ℕ} → Opens d t bytes u here → length here < length bytes
opens_shorter opens =
    let o = opens_inside opens in
    let gap = past_gap_shorter o.inside in
    let less = ends_within o.ends in
    rw o.is (omega arith)
