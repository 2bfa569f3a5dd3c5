-- The tags of members that stand before, and what is found at a member after them.
use Rattle.std.proofs.Common.{◌≡◌, ℕ, ◌+◌, ◌<◌, Bool, true, false, cond, not, ◌&&◌, ◌||◌, Option, Some, None, List, [], ◌∷◌, ◌++◌, length, get_or, take, nat_eq, nat_lt, ℤ, refl, sym, ap, ◌∙◌, subst, arith, append-nil, append_assoc}
use Rattle.std.specs.Prelude.{pos, negsuc}
use Rattle.std.specs.List.{list_any}
use Rattle.std.specs.Cmp.{signed_Decides}
use Rattle.std.specs.Ordering.{int_eq}
use Rattle.std.proofs.lemmas.Grind.{common_steps}
use Rattle.std.proofs.lemmas.List.Folds.{list_any-append}
use Rattle.least_fault.specs.Least.{Notes}
use Rattle.least_fault.proofs.Together.{notes_next}
use Rattle.idl_lex.specs.declared.span.Span.{Span}
use Rattle.idl_parse.specs.declared.tree.member.MemberTree.{MemberTree}
use Rattle.idl_parse.specs.declared.tree.type_tree.TypeTree.{out-TypeTree}
use Rattle.tars_model.specs.Values.{is_unsigned}
use Rattle.idl_scene.specs.Faults.{is_below, fault_if}
use Rattle.idl_scene.specs.Known.{Scene}
use Rattle.idl_scene.specs.NumberSteps.{tag_number, tag_at}
use Rattle.idl_scene.specs.declared.check_fault.CheckWhy.TheVariants.{TwiceTag, TagRange}
use Rattle.idl_scene.specs.declared.check_fault.Fault.{Fault}
use Rattle.idl_scene.proofs.FaultLaws.{order}
use Rattle.idl_rules.specs.Conditions.{member_rules}
use Rattle.idl_rules.specs.JudgeSteps.{found_at, found_in}
use Rattle.idl_rules.specs.PartSteps.{HasSameTags, tags_with, faults_of_tag, faults_of_member}
use Rattle.idl_rules.specs.Rules.{tag_of, bad_written, left_out, array_at}
use Rattle.idl_rules.proofs.LoopLaws.{next_part}
use Rattle.idl_rules.proofs.SeenLaws.{or_false, not_not}

same_number : (a b : ℕ) → nat_eq a b ≡ true → a ≡ b
same_number a b e = grind (arith, common_steps)

far : (tag n : ℕ) → tag < 256 → nat_lt n 256 ≡ false → nat_eq tag n ≡ false
far tag n within out = grind (arith, common_steps)

near : (n : ℕ) → nat_lt n 256 ≡ true → n < 256
near n e = grind (arith, common_steps)

-- a tag that stood before, or this one
any_tag : (tags : List ℕ) (new tag : ℕ) → list_any (nat_eq tag) (cond (list_any (nat_eq new) tags) tags (tags ++ new ∷ [])) ≡ (list_any (nat_eq tag) tags || nat_eq tag new)
any_tag tags new tag = by (list_any (nat_eq new) tags) refl
  where
    equal_seen : (c : Bool) → nat_eq tag new ≡ c → list_any (nat_eq new) tags ≡ true → list_any (nat_eq tag) tags ≡ (list_any (nat_eq tag) tags || c)
    equal_seen true same there =
        let t : list_any (nat_eq tag) tags ≡ true = ap (λ n. list_any (nat_eq n) tags) (same_number tag new same) ∙ there in
        t ∙ ap (λ b. b || true) (sym t)
    equal_seen false same there = sym (or_false (list_any (nat_eq tag) tags))

    by : (b : Bool) → list_any (nat_eq new) tags ≡ b → list_any (nat_eq tag) (cond b tags (tags ++ new ∷ [])) ≡ (list_any (nat_eq tag) tags || nat_eq tag new)
    by true e = equal_seen (nat_eq tag new) refl e
    by false e = list_any-append (nat_eq tag) tags (new ∷ []) ∙ ap (λ b. list_any (nat_eq tag) tags || b) (or_false (nat_eq tag new))

pos_is : (a b : ℕ) → pos a ≡ pos b → a ≡ b
pos_is a b e = cc

eq_true : (a b : ℕ) → nat_eq a b ≡ true → int_eq (pos a) (pos b) ≡ true
eq_true a b e = (signed_Decides (pos a) (pos b)).1 (ap pos (same_number a b e))

different : (a b : ℕ) → nat_eq a b ≡ false → a ≡ b → ⊥
different a b e q = grind (arith, common_steps)

eq_false : (a b : ℕ) → nat_eq a b ≡ false → int_eq (pos a) (pos b) ≡ false
eq_false a b e = by (int_eq (pos a) (pos b)) refl
  where
    by : (c : Bool) → int_eq (pos a) (pos b) ≡ c → c ≡ false
    by true is = absurd (different a b e (pos_is a b ((signed_Decides (pos a) (pos b)).0 is)))
    by false is = refl

pos_eq : (a b : ℕ) → int_eq (pos a) (pos b) ≡ nat_eq a b
pos_eq a b = by (nat_eq a b) refl
  where
    by : (c : Bool) → nat_eq a b ≡ c → int_eq (pos a) (pos b) ≡ c
    by true e = eq_true a b e
    by false e = eq_false a b e

any_with : (z : ℤ) (tags : List ℕ) (tag : ℕ) → tag < 256 → list_any (nat_eq tag) (tags_with tags (tag_number z)) ≡ (list_any (nat_eq tag) tags || int_eq (pos tag) z)
any_with (pos n) tags tag within = by (nat_lt n 256) refl ∙ ap (λ b. list_any (nat_eq tag) tags || b) (sym (pos_eq tag n))
  where
    by : (b : Bool) → nat_lt n 256 ≡ b → list_any (nat_eq tag) (tags_with tags (cond b (Some n) None)) ≡ (list_any (nat_eq tag) tags || nat_eq tag n)
    by true e = any_tag tags n tag
    by false e = sym (ap (λ b. list_any (nat_eq tag) tags || b) (far tag n within e) ∙ or_false (list_any (nat_eq tag) tags))
any_with (negsuc n) tags tag within = sym (or_false (list_any (nat_eq tag) tags))

module _ (s : Scene) (tags : List ℕ) where
  tags_more : (before : List MemberTree) (m : MemberTree) → HasSameTags s tags before → HasSameTags s (tags_with tags (tag_at s m.tag)) (before ++ m ∷ [])
  tags_more before m has = record {
    same = λ tag within. any_with (tag_of s m) tags tag within ∙ ap (λ b. b || int_eq (pos tag) (tag_of s m)) (has.same tag within)
        ∙ sym (list_any-append (λ e. int_eq (pos tag) (tag_of s e)) before (m ∷ []) ∙ ap (λ b. list_any (λ e. int_eq (pos tag) (tag_of s e)) before || b) (or_false (int_eq (pos tag) (tag_of s m))));
  }

  tag_faults : (z : ℤ) (span : Span) (before : List MemberTree) → HasSameTags s tags before
      → faults_of_tag s tags span (tag_number z) ≡ fault_if (is_unsigned 8 z && list_any (λ e. int_eq z (tag_of s e)) before) s.file span.start TwiceTag ++ fault_if (not (is_unsigned 8 z)) s.file span.start TagRange
  tag_faults (pos n) span before has = by (nat_lt n 256) refl
    where
      by : (b : Bool) → nat_lt n 256 ≡ b → faults_of_tag s tags span (cond b (Some n) None) ≡ fault_if (b && list_any (λ e. int_eq (pos n) (tag_of s e)) before) s.file span.start TwiceTag ++ fault_if (not b) s.file span.start TagRange
      by true e = ap (λ b. fault_if b s.file span.start TwiceTag) (not_not _ ∙ has.same n (near n e)) ∙ sym (append-nil _)
      by false e = refl
  tag_faults (negsuc n) span before has = refl

  -- what is found at a member after these tags is what is found after the members before it
  same_faults : (before : List MemberTree) (m : MemberTree) → HasSameTags s tags before → faults_of_member s tags m ≡ found_at member_rules s before m
  same_faults before m has =
      let twice = fault_if (is_unsigned 8 (tag_of s m) && list_any (λ e. int_eq (tag_of s m) (tag_of s e)) before) s.file m.tag.start TwiceTag in
      let range = fault_if (not (is_unsigned 8 (tag_of s m))) s.file m.tag.start TagRange in
      let written = bad_written s (out-TypeTree m.typed.ty) m.default in
      ap (λ l. l ++ (written ++ left_out s (array_at m.array))) (tag_faults (tag_of s m) m.tag before has)
      ∙ append_assoc twice range (written ++ left_out s (array_at m.array))
      ∙ ap (λ l. twice ++ (range ++ (written ++ l))) (sym (append-nil (left_out s (array_at m.array))))

-- one member more
module _ (s : Scene) (tags : List ℕ) (members : List MemberTree) (i : ℕ) (m : MemberTree) (within : i < length members) (is : m ≡ get_or members i m) (has : HasSameTags s tags (take i members)) where
  pub tags_next : HasSameTags s (tags_with tags (tag_at s m.tag)) (take (i + 1) members)
  tags_next = subst (HasSameTags s (tags_with tags (tag_at s m.tag))) (sym (next_part members i m within is)) (tags_more s tags (take i members) m has)

  pub members_next : {old mid new : Option Fault} → Notes is_below old mid (found_in member_rules s (take i members)) → Notes is_below mid new (faults_of_member s tags m) → Notes is_below old new (found_in member_rules s (take (i + 1) members))
  members_next {old} {mid} {new} so_far here =
      subst (λ l. Notes is_below old new (found_in member_rules s l)) (sym (next_part members i m within is))
      (notes_next is_below order (found_at member_rules s) (take i members) m so_far (subst (λ l. Notes is_below mid new l) (same_faults s tags (take i members) m has) here))
