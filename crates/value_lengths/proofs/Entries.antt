-- The entries of a map take as many bytes in the order of the text as in that of their keys.
use Rattle.std.proofs.Common.{◌≡◌, ℕ, ◌+◌, List, [], ◌∷◌, ◌++◌, length, ap, arith, length-append}
use Rattle.tars_model.specs.Declarations.{Declared}
use Rattle.tars_model.specs.declared.ty.Ty.{Ty}
use Rattle.tars_model.specs.declared.value.Pair.{Pair}
use Rattle.tars_codec.specs.Spellings.{spelled_entry, spelled_entries}
use Rattle.value_text.specs.Spelling.{Placed, done, put}

module _ (d : Declared) (key to : Ty) where
  abbrev pub entries_size : List Pair → ℕ
  entries_size ps = length (spelled_entries d key to ps)

  abbrev pub entry_size : Pair → ℕ
  entry_size p = length (spelled_entry d key to p)

  -- one entry, and those after it
  pub entries_more : (p : Pair) (ps : List Pair) → entries_size (p ∷ ps) ≡ entry_size p + entries_size ps
  entries_more p ps = simp length-append (omega arith)

  entries_between : (lower higher : List Pair) (p : Pair) → entries_size (lower ++ p ∷ higher) ≡ entry_size p + entries_size (lower ++ higher)
  entries_between [] higher p = entries_more p higher
  entries_between (l ∷ lower) higher p =
      omega (arith, entries_more l (lower ++ p ∷ higher), entries_more l (lower ++ higher), entries_between lower higher p)

  pub placed_size : {before ps all : List Pair} → Placed before ps all → entries_size all ≡ entries_size before + entries_size ps
  placed_size (done same) = rw same (omega arith)
  placed_size {all = all} (put {p = p} {before = before} {ps = ps} lower higher is here others) =
      let rest = placed_size others in
      let whole : entries_size before ≡ entries_size (lower ++ higher) = ap entries_size is in
      omega (arith, rest, whole, entries_between lower higher p, entries_more p ps)
