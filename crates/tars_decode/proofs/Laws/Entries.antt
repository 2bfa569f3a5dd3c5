-- An entry that is read goes where its key does.
use Rattle.std.proofs.Common.{◌≡◌, ℕ, suc, ◌+◌, ◌*◌, Bool, true, false, cond, List, map, Some, None, Ok, Err, refl, ap, ◌∙◌}
use Rattle.std.specs.List.{list_any, insert}
use Rattle.facts.specs.ResultSteps.{◌>>=◌}
use Rattle.tars_model.specs.Values.{key_of, entry_key}
use Rattle.tars_model.specs.declared.ty.Ty.{Ty}
use Rattle.tars_model.specs.declared.value.Value.{Value, out-Value}
use Rattle.tars_model.specs.declared.value.Pair.{Pair}
use Rattle.tars_wire.specs.declared.wire_type.WireType.{WireType}
use Rattle.tars_wire.specs.Heads.{Head}
use Rattle.tars_decode.specs.Reads.{Read, in_step, same_key, new_key, entry, add_entry, misfit}
use Rattle.tars_decode.specs.declared.refuse.Misfit.TheVariants.{TwiceKey}
use Rattle.tars_decode.specs.ReadingSteps.{Walk, Inner, step_in, below_key, place_of, placed, item_at, key_at, element_at, entry_at, entries_at}
use Rattle.tars_decode.proofs.EntryLaws.{below_inserts}
use Rattle.tars_decode.proofs.Laws.Joined.{joined, step_joined}
use Rattle.tars_decode.proofs.Laws.Steps.{item_read, element_read}

abbrev key_then : List Pair → Walk Value → Walk (ℕ × Value)
key_then ps first = first >>= λ k. placed (place_of (key_of (out-Value k.0)) (map entry_key ps)) k.0 k.1

abbrev placed_entry : ℕ → Value → Value × List ℕ → Walk (ℕ × Pair)
placed_entry n key v = Ok ((n, entry key v.0), v.1)

abbrev entry_then : (List ℕ → Walk Value) → Walk (ℕ × Value) → Walk (ℕ × Pair)
entry_then second first = first >>= λ k. second k.1 >>= λ v. Ok ((k.0.0, entry k.0.1 v.0), v.1)

abbrev entries_then : List Pair → (List Pair → List ℕ → Walk (List Pair)) → Walk (ℕ × Pair) → Walk (List Pair)
entries_then ps later one = one >>= λ e. later (insert ps e.0.0 e.0.1) e.1

abbrev says_then : List Pair → Read Value → (List Pair → Read (List Pair)) → Read Value → Read (List Pair)
says_then ps second later first = first >>= λ x. second >>= λ y. later (add_entry (entry x y) ps)

-- the key is read, then its value, then the entries after them
key_law : (step : ℕ) (ps : List Pair) (key : Value) (mid next rest : List ℕ) (value : Read Value) (second : List ℕ → Walk Value) (later : List Pair → List ℕ → Walk (List Pair)) (says : List Pair → Read (List Pair)) → second mid ≡ joined value next → ((qs : List Pair) → later qs next ≡ joined (says qs) rest)
    → entries_then ps later (entry_then second (step_in step (key_then ps (Ok (key, mid))))) ≡ joined (says_then ps value says (in_step step (new_key ps key))) rest
unfolding place_of
key_law step ps key mid next rest value second later says e others = go (list_any (same_key (key_of (out-Value key))) (map entry_key ps))
  where
    with_value : (r : Read Value) → (joined r next >>= λ v. later (insert ps (below_key (key_of (out-Value key)) (map entry_key ps)) (entry key v.0)) v.1) ≡ joined (r >>= λ y. says (add_entry (entry key y) ps)) rest
    with_value (Ok y) = ap (λ qs. later qs next) (below_inserts key y ps) ∙ others (add_entry (entry key y) ps)
    with_value (Err refusal) = refl

    regroup : (r : Walk Value) → entries_then ps later (r >>= placed_entry (below_key (key_of (out-Value key)) (map entry_key ps)) key) ≡ (r >>= λ v. later (insert ps (below_key (key_of (out-Value key)) (map entry_key ps)) (entry key v.0)) v.1)
    regroup (Ok v) = refl
    regroup (Err why) = refl

    go : (b : Bool) → entries_then ps later (entry_then second (step_in step (placed (cond b None (Some (below_key (key_of (out-Value key)) (map entry_key ps)))) key mid))) ≡ joined (says_then ps value says (in_step step (cond b (misfit TwiceKey) (Ok key)))) rest
    go true = refl
    go false = regroup (second mid) ∙ (ap (λ r. r >>= λ v. later (insert ps (below_key (key_of (out-Value key)) (map entry_key ps)) (entry key v.0)) v.1) e ∙ with_value value)

entry_law : (step : ℕ) (ps : List Pair) (key : Read Value) (mid next rest : List ℕ) (value : Read Value) (second : List ℕ → Walk Value) (later : List Pair → List ℕ → Walk (List Pair)) (says : List Pair → Read (List Pair)) → second mid ≡ joined value next → ((qs : List Pair) → later qs next ≡ joined (says qs) rest)
    → entries_then ps later (entry_then second (step_in step (key_then ps (joined key mid)))) ≡ joined (says_then ps value says (in_step step (key >>= new_key ps))) rest
entry_law step ps (Ok key) mid next rest value second later says e others = key_law step ps key mid next rest value second later says e others
entry_law step ps (Err refusal) mid next rest value second later says e others = refl

pub no_entries : (inner : Inner) (key to : Ty) (i : ℕ) (ps : List Pair) (w : List ℕ) → entries_at inner key to i 0 ps w ≡ Ok (ps, w)
unfolding entries_at
no_entries inner key to i ps w = refl

pub entries_law : (inner : Inner) (key to : Ty) (i n : ℕ) (ps : List Pair) (k v : Read Value) (says : List Pair → Read (List Pair)) (key_type type : WireType) (w key_after mid following next rest : List ℕ)
    → Head 0 key_type w key_after → inner key key_type key_after ≡ joined k mid → Head 1 type mid following → inner to type following ≡ joined v next → ((qs : List Pair) → entries_at inner key to (i + 1) n qs next ≡ joined (says qs) rest)
    → entries_at inner key to i (suc n) ps w ≡ joined (in_step (2 * i) (k >>= new_key ps) >>= λ x. in_step (2 * i + 1) v >>= λ y. says (add_entry (entry x y) ps)) rest
unfolding entries_at entry_at key_at
entries_law inner key to i n ps k v says key_type type w key_after mid following next rest key_head key_is head is others =
    let first : item_at inner key w ≡ joined k mid = item_read inner key k 0 key_type w key_after mid key_head key_is in
    let second : element_at inner to (2 * i + 1) mid ≡ joined (in_step (2 * i + 1) v) next = element_read inner to (2 * i + 1) v 1 type mid following next head is ∙ step_joined (2 * i + 1) v next in
    ap (λ r. entries_then ps (entries_at inner key to (i + 1) n) (entry_then (element_at inner to (2 * i + 1)) (step_in (2 * i) (key_then ps r)))) first
    ∙ entry_law (2 * i) ps k mid next rest (in_step (2 * i + 1) v) (element_at inner to (2 * i + 1)) (entries_at inner key to (i + 1) n) says second others
