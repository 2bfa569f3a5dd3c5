-- What reading a body gives is the verdict on its bytes.
use Rattle.std.proofs.Common.{◌≡◌, ◌<◌, ◌≤◌, ℕ, suc, ◌+◌, ◌-◌, Bool, true, false, cond, List, [], ◌∷◌, length, get_or, Option, Some, None, Result, Ok, Err, refl, ap, ◌∙◌, subst, arith}
use Rattle.std.specs.List.{AllByRecursion}
use Rattle.longest_prefix.specs.Machine.{Course, taken, stopped, one_later, ended, run}
use Rattle.tars_wire.specs.declared.wire_fault.WireWhy.{WireWhy}
use Rattle.tars_wire.specs.declared.wire_fault.WireWhy.TheVariants as why
use Rattle.tars_wire.specs.declared.stop.Stop.{Stop}
use Rattle.tars_wire.specs.declared.head_context.HeadContext.TheVariants as heads
use Rattle.tars_wire.specs.declared.head.FirstByte.{FirstByte}
use Rattle.tars_wire.specs.declared.head.FirstByte.TheVariants as first
use Rattle.tars_wire.specs.Heads.{MAX_DEPTH}
use Rattle.tars_wire.specs.Spelled.{IsBody, ALL}
use Rattle.tars_wire.specs.MachineSteps.{tag_fault, unless, first_byte, contents, Inside, parts, tag_of, part_step, tag_step, State, within, lift_step, body_step, step, may_end, START}
use Rattle.facts.specs.ResultSteps.{◌>>=◌}
use Rattle.tars_wire.specs.ScanSteps.{too_short, stops_at, judged_tag, tag_at, headed, head_at, reading, contents_at, judging, body_at}
use Rattle.tars_wire.proofs.Machine.Steps.{IsByte}
use Rattle.tars_wire.proofs.Machine.Faults.{OneFault, end_is_body, stop_is_fault}
use Rattle.facts.proofs.ResultLaws.{bind_ok, bind_same}
use Rattle.tars_wire.proofs.Scanning.Readings.{reading_contents}
use Rattle.tars_wire.proofs.Scanning.Remainders.{Facts}

-- how a course ends, by what is left
abbrev pub course : ℕ → Result (List ℕ) Stop → Course WireWhy
course total (Ok rest) = taken
course total (Err stop) = stopped (total - stop.left) stop.why

end_facts : (b : Bool) → Facts [] (cond b (Ok []) (Err too_short))
end_facts true = omega arith
end_facts false = omega arith

step_facts : (byte : ℕ) (rest : List ℕ) (r : Result State WireWhy) → ((to : State) → Facts rest (judging to rest)) → Facts (byte ∷ rest) (elim r [ Ok to ↦ judging to rest | Err fault ↦ Err (stops_at (byte ∷ rest) fault) ])
step_facts byte rest (Ok to) rec = longer (judging to rest) (rec to)
  where
    longer : (r : Result (List ℕ) Stop) → Facts rest r → Facts (byte ∷ rest) r
    longer (Ok v) f = omega arith
    longer (Err stop) f = omega arith
step_facts byte rest (Err fault) rec = omega arith

pub judging_facts : (state : State) (w : List ℕ) → Facts w (judging state w)
judging_facts state [] = end_facts (may_end state)
judging_facts state (byte ∷ rest) = step_facts byte rest (step ALL state byte) (λ to. judging_facts to rest)

later_course : (w : List ℕ) (r : Result (List ℕ) Stop) → Facts w r → one_later (course (length w) r) ≡ course (suc (length w)) r
later_course w (Ok v) f = refl
later_course w (Err stop) f = ap (λ k. stopped k stop.why) (let e : suc (length w - stop.left) ≡ suc (length w) - stop.left = omega arith in e)

end_course : (b : Bool) → ended b why.Short ≡ course 0 (cond b (Ok []) (Err too_short))
end_course true = refl
end_course false = refl

step_course : (byte : ℕ) (rest : List ℕ) (r : Result State WireWhy) → ((to : State) → run (step ALL) may_end why.Short to rest ≡ course (length rest) (judging to rest))
    → elim r [ Ok to ↦ one_later (run (step ALL) may_end why.Short to rest) | Err fault ↦ stopped 0 fault ]
    ≡ course (suc (length rest)) (elim r [ Ok to ↦ judging to rest | Err fault ↦ Err (stops_at (byte ∷ rest) fault) ])
step_course byte rest (Ok to) rec = ap one_later (rec to) ∙ later_course rest (judging to rest) (judging_facts to rest)
step_course byte rest (Err fault) rec = ap (λ k. stopped k fault) (let e : 0 ≡ suc (length rest) - suc (length rest) = omega arith in e)

pub run_is : (state : State) (w : List ℕ) → run (step ALL) may_end why.Short state w ≡ course (length w) (judging state w)
run_is state [] = end_course (may_end state)
run_is state (byte ∷ rest) = step_course byte rest (step ALL state byte) (λ to. run_is to rest)

-- inside a field, and then after it
lifted : (from byte : ℕ) (rest : List ℕ) (r : Result Inside WireWhy) → ((to : Inside) → judging (within to from) rest ≡ reading to rest >>= (λ v. judging (within (parts []) from) v))
    → elim (lift_step from r) [ Ok to ↦ judging to rest | Err fault ↦ Err (stops_at (byte ∷ rest) fault) ]
    ≡ elim r [ Ok to ↦ reading to rest | Err fault ↦ Err (stops_at (byte ∷ rest) fault) ] >>= (λ v. judging (within (parts []) from) v)
lifted from byte rest (Ok to) rec = rec to
lifted from byte rest (Err fault) rec = refl

judging_inside : (inside : Inside) (from : ℕ) (w : List ℕ) → judging (within inside from) w ≡ reading inside w >>= (λ v. judging (within (parts []) from) v)
judging_inside (parts []) from w = refl
judging_inside (parts (part ∷ below)) from [] = refl
judging_inside (parts (part ∷ below)) from (byte ∷ rest) = lifted from byte rest (part_step ALL part below byte) (λ to. judging_inside to from rest)
judging_inside (tag_of context type below) from [] = refl
judging_inside (tag_of context type below) from (tag ∷ rest) = lifted from tag rest (tag_step ALL context type below tag) (λ to. judging_inside to from rest)

-- the head of a field of the body
body_goes : (from byte : ℕ) (rest : List ℕ) (r : Result FirstByte WireWhy)
    → elim (body_step from r) [ Ok to ↦ judging to rest | Err fault ↦ Err (stops_at (byte ∷ rest) fault) ]
    ≡ headed (heads.Body from) r byte rest >>= (λ h. judging (within (parts (contents MAX_DEPTH h.0.kind [])) (h.0.tag + 1)) h.1)
unfolding tag_at
body_goes from byte rest (Ok (first.Whole head)) = refl
body_goes from byte [] (Ok (first.Long type)) = refl
body_goes from byte (tag ∷ rest) (Ok (first.Long type)) = go (tag_fault ALL (heads.Body from) type tag)
  where
    go : (f : Option WireWhy) → elim (unless f (within (parts (contents MAX_DEPTH type [])) (tag + 1))) [ Ok to ↦ judging to rest | Err fault ↦ Err (stops_at (tag ∷ rest) fault) ]
        ≡ judged_tag f type tag rest >>= (λ h. judging (within (parts (contents MAX_DEPTH h.0.kind [])) (h.0.tag + 1)) h.1)
    go None = refl
    go (Some fault) = refl
body_goes from byte rest (Err fault) = refl

pub body_ends : (from : ℕ) → body_at from [] ≡ Ok []
unfolding body_at
body_ends from = refl

pub one_body_field : (from byte : ℕ) (rest : List ℕ) → body_at from (byte ∷ rest) ≡ head_at (heads.Body from) (byte ∷ rest) >>= (λ h. contents_at MAX_DEPTH h.0.kind h.1 >>= body_at (h.0.tag + 1))
unfolding body_at head_at
one_body_field from byte rest =
    body_goes from byte rest (first_byte ALL (heads.Body from) byte)
    ∙ bind_same (headed (heads.Body from) (first_byte ALL (heads.Body from) byte) byte rest) (λ h. judging (within (parts (contents MAX_DEPTH h.0.kind [])) (h.0.tag + 1)) h.1) (λ h. contents_at MAX_DEPTH h.0.kind h.1 >>= body_at (h.0.tag + 1))
    (λ h. judging_inside (parts (contents MAX_DEPTH h.0.kind [])) (h.0.tag + 1) h.1
    ∙ ap (λ r. r >>= (λ v. judging (within (parts []) (h.0.tag + 1)) v)) (reading_contents MAX_DEPTH h.0.kind [] h.1 ∙ bind_ok (contents_at MAX_DEPTH h.0.kind h.1)))

-- bytes are below 256
pub all_bytes : (w : List ℕ) → ((i : ℕ) → get_or w i 0 < 256) → AllByRecursion IsByte w
all_bytes [] h = tt
all_bytes (b ∷ w) h = (h 0, all_bytes w (λ i. h (suc i)))

module _ (w : List ℕ) (fits : (i : ℕ) → get_or w i 0 < 256) where
  the_course : (r : Result (List ℕ) Stop) → body_at 0 w ≡ r → run (step ALL) may_end why.Short START w ≡ course (length w) r
  unfolding body_at
  the_course r e = run_is START w ∙ ap (course (length w)) e

  pub taken_is_body : (rest : List ℕ) → body_at 0 w ≡ Ok rest → IsBody w
  taken_is_body rest e = end_is_body w (all_bytes w fits) (the_course (Ok rest) e)

  pub stop_is_one : (stop : Stop) → body_at 0 w ≡ Err stop → OneFault w (length w - stop.left) stop.why
  stop_is_one stop e = stop_is_fault w (all_bytes w fits) (length w - stop.left) stop.why (the_course (Err stop) e)

-- what is left where it stopped is no more than all
pub left_within : (w : List ℕ) (stop : Stop) → body_at 0 w ≡ Err stop → stop.left ≤ length w
unfolding body_at
left_within w stop e = let P : Result (List ℕ) Stop → Type 0 = Facts w in subst P e (judging_facts START w)
