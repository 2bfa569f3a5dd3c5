-- A text is read from its front.
use Rattle.std.proofs.Common.{◌≡◌, ◌<◌, ◌≤◌, ℕ, ◌+◌, length, get_or, List, ◌∷◌, ◌++◌, Option, Some, None, Ok, Err, drop, ap, ◌∙◌, arith, append-nil}
use Rattle.std.proofs.lemmas.List.{drop_more}
use Rattle.std.proofs.Math.ListN.{drop_of_length-le}
use Rattle.hex_text.specs.HexSteps.{part_of, waits, goes_on, at_end, read_of}
use Rattle.hex_text.specs.declared.part.Part.{Part}
use Rattle.hex_text.proofs.Readings.{Read}

-- what is read in all, after so many bytes of a text, which spell these
abbrev pub in_all : ℕ → List ℕ → Read → Read
in_all at bytes (Ok more) = Ok (bytes ++ more)
in_all at bytes (Err further) = Err (at + further)

module _ (all : Read) (text : List ℕ) (at : ℕ) (bytes : List ℕ) (high : Option ℕ) (so_far : all ≡ in_all at bytes (read_of high (drop at text))) (within : at < length text) where
  abbrev pub byte_here : ℕ
  byte_here = get_or text at 0

  here : all ≡ in_all at bytes (read_of high (byte_here ∷ drop (at + 1) text))
  here = so_far ∙ ap (λ (t : List ℕ). in_all at bytes (read_of high t)) (drop_more text at 0 within)

  pub stops_here : part_of high byte_here ≡ None → all ≡ Err at
  stops_here none =
      here ∙ ap (λ (o : Option Part). in_all at bytes (elim o [ None ↦ Err 0 | Some t ↦ goes_on t (read_of (waits t) (drop (at + 1) text)) ])) none
      ∙ ap (λ (k : ℕ). Err k) (omega arith)

-- ---- at the end

module _ (all : Read) (text : List ℕ) (at : ℕ) (bytes : List ℕ) (high : Option ℕ) (so_far : all ≡ in_all at bytes (read_of high (drop at text))) (past : length text ≤ at) where
  end : all ≡ in_all at bytes (at_end high)
  end = so_far ∙ ap (λ (t : List ℕ). in_all at bytes (read_of high t)) (drop_of_length-le text past)

  pub spelt_at_end : high ≡ None → all ≡ Ok bytes
  spelt_at_end none = end ∙ ap (λ (o : Option ℕ). in_all at bytes (at_end o)) none ∙ ap (λ (bs : List ℕ). Ok bs) (append-nil bytes)

  pub fault_at_end : (digit : ℕ) → high ≡ Some digit → at ≤ length text → all ≡ Err (length text)
  fault_at_end digit some within = end ∙ ap (λ (o : Option ℕ). in_all at bytes (at_end o)) some ∙ ap (λ (k : ℕ). Err k) (omega arith)
