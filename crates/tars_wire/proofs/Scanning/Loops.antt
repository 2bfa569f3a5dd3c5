-- One turn of a loop: what is left to be read after it is what was left before, but for the piece.
use Rattle.std.proofs.Common.{[], ◌∷◌, length, ◌≡◌, ◌<◌, ◌≤◌, ℕ, suc, ◌+◌, ◌-◌, true, false, cond, List, Result, Ok, Err, sym, ap, ◌∙◌, arith}
use Rattle.tars_wire.specs.declared.stop.Stop.{Stop}
use Rattle.tars_wire.specs.declared.head_context.HeadContext.TheVariants as heads
use Rattle.tars_wire.specs.declared.head.Head.{Head}
use Rattle.tars_wire.specs.Heads.{MAX_DEPTH, is_end}
use Rattle.facts.specs.ResultSteps.{◌>>=◌}
use Rattle.tars_wire.specs.ScanSteps.{head_at, contents_at, fields_at, body_at}
use Rattle.tars_wire.proofs.Scanning.Readings.{one_field_more}
use Rattle.tars_wire.proofs.Scanning.Verdicts.{body_ends, one_body_field}

module _ (F : ℕ → List ℕ → Result (List ℕ) Stop) (one : List ℕ → Result (List ℕ) Stop) where
  pub counted_on : ((n : ℕ) (w : List ℕ) → F (suc n) w ≡ one w >>= F n) → (count i : ℕ) (w v : List ℕ) (total : Result (List ℕ) Stop) → i < count → one w ≡ Ok v → F (count - i) w ≡ total → F (count - (i + 1)) v ≡ total
  counted_on more count i w v total lt e so_far =
      let k : count - i ≡ suc (count - (i + 1)) = omega arith in
      sym (ap (λ n. F n w) k ∙ (more (count - (i + 1)) w ∙ ap (λ r. r >>= F (count - (i + 1))) e)) ∙ so_far

  pub counted_fails : ((n : ℕ) (w : List ℕ) → F (suc n) w ≡ one w >>= F n) → (count i : ℕ) (w : List ℕ) (stop : Stop) (total : Result (List ℕ) Stop) → i < count → one w ≡ Err stop → F (count - i) w ≡ total → total ≡ Err stop
  counted_fails more count i w stop total lt e so_far =
      let k : count - i ≡ suc (count - (i + 1)) = omega arith in
      sym so_far ∙ (ap (λ n. F n w) k ∙ (more (count - (i + 1)) w ∙ ap (λ r. r >>= F (count - (i + 1))) e))

  pub counted_done : ((w : List ℕ) → F 0 w ≡ Ok w) → (count i : ℕ) (w : List ℕ) (total : Result (List ℕ) Stop) → count ≤ i → F (count - i) w ≡ total → total ≡ Ok w
  counted_done none count i w total le so_far =
      let k : count - i ≡ 0 = omega arith in
      sym so_far ∙ (ap (λ n. F n w) k ∙ none w)

-- what comes of a field, by its head
abbrev field_then : ℕ → Result (Head × List ℕ) Stop → Result (List ℕ) Stop
field_then room r = r >>= (λ h. cond (is_end h.0.kind) (Ok h.1) (contents_at room h.0.kind h.1 >>= fields_at (h.0.tag + 1) room))

module _ (from room : ℕ) (w : List ℕ) (total : Result (List ℕ) Stop) (so_far : fields_at from room w ≡ total) where
  pub head_fails : (stop : Stop) → head_at (heads.Struct from room) w ≡ Err stop → total ≡ Err stop
  head_fails stop e = sym so_far ∙ (one_field_more from room w ∙ ap (field_then room) e)

  pub struct_ends : (head : Head) (v : List ℕ) → head_at (heads.Struct from room) w ≡ Ok (head, v) → is_end head.kind ≡ true → total ≡ Ok v
  struct_ends head v e ends =
      sym so_far ∙ (one_field_more from room w ∙ (ap (field_then room) e ∙ ap (λ b. cond b (Ok v) (contents_at room head.kind v >>= fields_at (head.tag + 1) room)) ends))

  to_contents : (head : Head) (v : List ℕ) → head_at (heads.Struct from room) w ≡ Ok (head, v) → is_end head.kind ≡ false → total ≡ contents_at room head.kind v >>= fields_at (head.tag + 1) room
  to_contents head v e ends =
      sym so_far ∙ (one_field_more from room w ∙ (ap (field_then room) e ∙ ap (λ b. cond b (Ok v) (contents_at room head.kind v >>= fields_at (head.tag + 1) room)) ends))

  pub contents_fail : (head : Head) (v : List ℕ) (stop : Stop) → head_at (heads.Struct from room) w ≡ Ok (head, v) → is_end head.kind ≡ false → contents_at room head.kind v ≡ Err stop → total ≡ Err stop
  contents_fail head v stop e ends f = to_contents head v e ends ∙ ap (λ r. r >>= fields_at (head.tag + 1) room) f

  pub fields_on : (head : Head) (v next : List ℕ) → head_at (heads.Struct from room) w ≡ Ok (head, v) → is_end head.kind ≡ false → contents_at room head.kind v ≡ Ok next → fields_at (head.tag + 1) room next ≡ total
  fields_on head v next e ends f = sym (to_contents head v e ends ∙ ap (λ r. r >>= fields_at (head.tag + 1) room) f)

-- and of a field of the body
abbrev body_then : Result (Head × List ℕ) Stop → Result (List ℕ) Stop
body_then r = r >>= (λ h. contents_at MAX_DEPTH h.0.kind h.1 >>= body_at (h.0.tag + 1))

one_more : (from : ℕ) (w : List ℕ) → 0 < length w → body_at from w ≡ body_then (head_at (heads.Body from) w)
one_more from [] some = absurd (omega arith)
one_more from (byte ∷ rest) some = one_body_field from byte rest

module _ (from : ℕ) (w : List ℕ) (total : Result (List ℕ) Stop) (so_far : body_at from w ≡ total) where
  pub body_done : length w ≤ 0 → total ≡ Ok []
  body_done none = sym so_far ∙ go w none
    where
      go : (w : List ℕ) → length w ≤ 0 → body_at from w ≡ Ok []
      go [] none = body_ends from
      go (byte ∷ rest) none = absurd (omega arith)

  pub body_head_fails : (stop : Stop) → 0 < length w → head_at (heads.Body from) w ≡ Err stop → total ≡ Err stop
  body_head_fails stop some e = sym so_far ∙ (one_more from w some ∙ ap body_then e)

  pub body_contents_fail : (head : Head) (v : List ℕ) (stop : Stop) → 0 < length w → head_at (heads.Body from) w ≡ Ok (head, v) → contents_at MAX_DEPTH head.kind v ≡ Err stop → total ≡ Err stop
  body_contents_fail head v stop some e f = sym so_far ∙ (one_more from w some ∙ (ap body_then e ∙ ap (λ r. r >>= body_at (head.tag + 1)) f))

  pub body_on : (head : Head) (v next : List ℕ) → 0 < length w → head_at (heads.Body from) w ≡ Ok (head, v) → contents_at MAX_DEPTH head.kind v ≡ Ok next → body_at (head.tag + 1) next ≡ total
  body_on head v next some e f = sym (one_more from w some ∙ (ap body_then e ∙ ap (λ r. r >>= body_at (head.tag + 1)) f)) ∙ so_far
