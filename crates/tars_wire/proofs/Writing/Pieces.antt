-- The pieces of a field that is spelled: a head, and what comes after it.
use Rattle.std.proofs.Common.{◌≡◌, ℕ, ◌+◌, ◌*◌, Bool, true, false, cond, ltb, ltb-true, List, [], ◌∷◌, ◌++◌, refl, append_assoc, arith}
use Rattle.std.specs.List.{AllByRecursion}
use Rattle.wire_words.specs.Spelling.{head}
use Rattle.tars_wire.specs.declared.wire_type.WireType.{WireType}
use Rattle.tars_wire.specs.Heads.{code_of, Head, short, long}
use Rattle.tars_wire.specs.Spelled.{Bytes, no_bytes, byte}
use Rattle.tars_wire.proofs.Machine.Steps.{IsByte}

abbrev pub AreBytes : List ℕ → Type 0
AreBytes bytes = AllByRecursion IsByte bytes

pub apart : (first second : List ℕ) → AreBytes (first ++ second) → AreBytes first × AreBytes second
apart [] second all = (tt, all)
apart (b ∷ bytes) second all = let parts = apart bytes second all.1 in ((all.0, parts.0), parts.1)

pub bytes_spell : (bytes rest : List ℕ) → AreBytes bytes → Bytes bytes (bytes ++ rest) rest
bytes_spell [] rest all = no_bytes
bytes_spell (b ∷ bytes) rest all = byte all.0 (bytes_spell bytes rest all.1)

pub head_spells : (tag : ℕ) (type : WireType) (rest : List ℕ) → AreBytes (head tag (code_of type)) → Head tag type (head tag (code_of type) ++ rest) rest
unfolding head
head_spells tag type rest all = by_test (ltb tag 15) refl all
  where
    bytes_by : Bool → List ℕ
    bytes_by b = cond b ((tag * 16 + code_of type) ∷ []) ((240 + code_of type) ∷ tag ∷ [])

    by_test : (b : Bool) → ltb tag 15 ≡ b → AreBytes (bytes_by b) → Head tag type (bytes_by b ++ rest) rest
    by_test true e all = short (omega arith) (ltb-true tag 15 e)
    by_test false e all = long refl all.1.0

-- bytes begin with a head of this tag, after which such contents come
pub record Spells (Contents : WireType → List ℕ → Type 0) (tag : ℕ) (bytes : List ℕ) : Type 0 where
  pub type : WireType
  pub following : List ℕ
  pub head : Head tag type bytes following
  pub contents : Contents type following

module _ (Contents : WireType → List ℕ → Type 0) (tag : ℕ) (type : WireType) where
  pub one_piece : (piece rest : List ℕ) → AreBytes (head tag (code_of type) ++ piece) → (AreBytes piece → Contents type (piece ++ rest)) → Spells Contents tag ((head tag (code_of type) ++ piece) ++ rest)
  one_piece piece rest all contents =
      let parts = apart (head tag (code_of type)) piece all in
      rw (append_assoc (head tag (code_of type)) piece rest) (record { type = type; following = piece ++ rest; head = head_spells tag type (piece ++ rest) parts.0; contents = contents parts.1 })

  pub two_pieces : (first second rest : List ℕ) → AreBytes ((head tag (code_of type) ++ first) ++ second) → (AreBytes first → AreBytes second → Contents type (first ++ (second ++ rest))) → Spells Contents tag (((head tag (code_of type) ++ first) ++ second) ++ rest)
  two_pieces first second rest all contents =
      let parts = apart (head tag (code_of type) ++ first) second all in
      rw (append_assoc (head tag (code_of type) ++ first) second rest) (one_piece first (second ++ rest) parts.0 (λ are. contents are parts.1))
