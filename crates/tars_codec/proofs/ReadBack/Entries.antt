-- The entries of a map are read again: their keys rise, so each comes after those before it.
use Rattle.std.proofs.Common.{◌≡◌, ◌<◌, ◌+◌, ◌*◌, ℕ, true, false, List, [], ◌∷◌, ◌++◌, map, Ok, refl, sym, ap, ◌∙◌, subst, append_assoc, append-nil}
use Rattle.std.specs.List.{AllByRecursion, list_any, list_all}
use Rattle.std.proofs.lemmas.Bool.{and_parts}
use Rattle.facts.specs.ResultSteps.{◌>>=◌}
use Rattle.wire_words.specs.Tree.{WirePairs, pair}
use Rattle.tars_model.specs.Declarations.{Declared}
use Rattle.tars_model.specs.Values.{key_of, key_below, keys_rise, entry_key, entry_fits}
use Rattle.tars_model.specs.declared.ty.Ty.{Ty}
use Rattle.tars_model.specs.declared.value.Value.{Value, out-Value}
use Rattle.tars_model.specs.declared.value.Pair.{Pair, out-Pair, roll-out-Pair}
use Rattle.tars_model.proofs.ToldLaws.{entry_key_is}
use Rattle.tars_wire.specs.Writable.{PairsWritable}
use Rattle.tars_decode.specs.Reads.{Read, in_step, same_key, new_key, entry, add_entry, says, pairs_say}
use Rattle.tars_decode.proofs.KeyLaws.{below_once, below_trans, rises_after}
use Rattle.tars_codec.specs.Written.{wire_value, wire_entry, wire_entries}
use Rattle.tars_codec.proofs.Fitting.{entry_key_fits, entry_value_fits}
use Rattle.tars_codec.proofs.Layers.{wire_entry_out}
use Rattle.tars_codec.proofs.ReadBack.StandsFor.{depth, ComesBack}

-- ---- keys that rise

abbrev IsAfter : Pair → Pair → Type 0
IsAfter p q = key_below (entry_key q) (entry_key p) ≡ true

all_before : (p : Pair) (qs ps : List Pair) → keys_rise (map entry_key (qs ++ p ∷ ps)) ≡ true → AllByRecursion (IsAfter p) qs
all_before p [] ps rise = tt
all_before p (q ∷ []) ps rise = ((rises_after (entry_key q) (map entry_key (p ∷ ps)) rise).0, tt)
all_before p (q ∷ r ∷ qs) ps rise =
    let parts = rises_after (entry_key q) (map entry_key (r ∷ (qs ++ p ∷ ps))) rise in
    let rest = all_before p (r ∷ qs) ps parts.1 in
    (below_trans (entry_key q) (entry_key r) (entry_key p) parts.0 rest.0, rest)

added_last : (p : Pair) (qs : List Pair) → AllByRecursion (IsAfter p) qs → add_entry p qs ≡ qs ++ p ∷ []
added_last p [] all = refl
added_last p (q ∷ qs) all = rw all.0 (ap (λ rest. q ∷ rest) (added_last p qs all.1))

none_same : (p : Pair) (qs : List Pair) → AllByRecursion (IsAfter p) qs → list_any (same_key (entry_key p)) (map entry_key qs) ≡ false
none_same p [] all = refl
none_same p (q ∷ qs) all = rw (below_once (entry_key q) (entry_key p) all.0, all.0, none_same p qs all.1) refl

-- the key of an entry, as it is read
is_new : (p : Pair) (qs : List Pair) → AllByRecursion (IsAfter p) qs → new_key qs (out-Pair p).key ≡ Ok (out-Pair p).key
is_new p qs all =
    let none : list_any (same_key (key_of (out-Value (out-Pair p).key))) (map entry_key qs) ≡ false = subst (λ k. list_any (same_key k) (map entry_key qs) ≡ false) (entry_key_is p) (none_same p qs all) in
    rw none refl

-- ---- one entry, and all

-- the key and the value of an entry both come back
abbrev pub EntryComesBack : Declared → Pair → Type 0
EntryComesBack d p = ComesBack d (out-Pair p).key × ComesBack d (out-Pair p).value

module _ (d : Declared) (from to : Ty) where
  abbrev wired : List Pair → WirePairs
  wired ps = wire_entries d from to (map wire_entry ps)

  wired_out : (p : Pair) (ps : List Pair) → wired (p ∷ ps) ≡ pair (wire_value (out-Pair p).key d from) (wire_value (out-Pair p).value d to) (wired ps)
  wired_out p ps = ap (λ e. pair (e.0 d from) (e.1 d to) (wired ps)) (wire_entry_out p)

  step : (p : Pair) (i : ℕ) (before : List Pair) (key_read value_read : Read Value) (others : List Pair → Read (List Pair)) → AllByRecursion (IsAfter p) before → key_read ≡ Ok (out-Pair p).key → value_read ≡ Ok (out-Pair p).value
      → (in_step (2 * i) (key_read >>= new_key before) >>= λ x. in_step (2 * i + 1) value_read >>= λ y. others (add_entry (entry x y) before)) ≡ others (before ++ p ∷ [])
  step p i before key_read value_read others all key_is value_is =
      let same : entry (out-Pair p).key (out-Pair p).value ≡ p = roll-out-Pair p in
      rw (key_is, is_new p before all, value_is, same, added_last p before all) refl

  entries_again : (ps : List Pair) (i : ℕ) (before : List Pair) → keys_rise (map entry_key (before ++ ps)) ≡ true → AllByRecursion (EntryComesBack d) ps → list_all (entry_fits d from to) ps ≡ true → pairs_say (wired ps) d from to i before ≡ Ok (before ++ ps)
  entries_again [] i before rise each fit = ap (λ ps. Ok ps) (sym (append-nil before))
  entries_again (p ∷ ps) i before rise each fit =
      let parts = and_parts (entry_fits d from to p) (list_all (entry_fits d from to) ps) fit in
      let grouped = append_assoc before (p ∷ []) ps in
      let rising : keys_rise (map entry_key ((before ++ p ∷ []) ++ ps)) ≡ true = rw grouped rise in
      let key_is = (each.0.0 from (entry_key_fits d from to p parts.0)).again in
      let value_is = (each.0.1 to (entry_value_fits d from to p parts.0)).again in
      ap (λ ws. pairs_say ws d from to i before) (wired_out p ps)
      ∙ step p i before (says (wire_value (out-Pair p).key d from) d from) (says (wire_value (out-Pair p).value d to) d to) (λ qs. pairs_say (wired ps) d from to (i + 1) qs) (all_before p before ps rise) key_is value_is
      ∙ entries_again ps (i + 1) (before ++ p ∷ []) rising each.1 parts.1
      ∙ ap (λ qs. Ok qs) grouped

  pub all_entries_again : (ps : List Pair) → keys_rise (map entry_key ps) ≡ true → AllByRecursion (EntryComesBack d) ps → list_all (entry_fits d from to) ps ≡ true → pairs_say (wired ps) d from to 0 [] ≡ Ok ps
  all_entries_again ps rise each fit = entries_again ps 0 [] rise each fit

  pub entries_fit : (ps : List Pair) (room : ℕ) → depth d from < room → depth d to < room → AllByRecursion (EntryComesBack d) ps → list_all (entry_fits d from to) ps ≡ true → PairsWritable (wired ps) room
  entries_fit [] room from_deep to_deep each fit = tt
  entries_fit (p ∷ ps) room from_deep to_deep each fit =
      let parts = and_parts (entry_fits d from to p) (list_all (entry_fits d from to) ps) fit in
      subst (λ ws. PairsWritable ws room) (sym (wired_out p ps)) ((each.0.0 from (entry_key_fits d from to p parts.0)).fits room from_deep, (each.0.1 to (entry_value_fits d from to p parts.0)).fits room to_deep, entries_fit ps room from_deep to_deep each.1 parts.1)
