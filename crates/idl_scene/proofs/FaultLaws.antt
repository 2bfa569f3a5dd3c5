-- The order of faults, and a running least of them.
use Rattle.std.proofs.Common.{◌≡◌, ℕ, Bool, true, false, Option, List, [], ◌++◌, refl, sym, ap, ◌∙◌, arith, nat_eq, nat_lt, if◌then◌else◌}
use Rattle.std.proofs.lemmas.Grind.{common_steps}
use Rattle.least_fault.specs.Least.{IsOrder, Notes}
use Rattle.least_fault.proofs.Together.{notes_nothing, notes_both}
use Rattle.idl_scene.specs.Faults.{number_of, is_below}
use Rattle.idl_scene.specs.declared.check_fault.CheckWhy.{CheckWhy}
use Rattle.idl_scene.specs.declared.check_fault.CheckWhy.TheVariants.{NoInclude, TwiceName, UnknownName, BadIdentifier, TwiceTag, TagRange, Float, BadKey, BadDefault, TooDeep, LeftOut, TooMany}
use Rattle.idl_scene.specs.declared.check_fault.Fault.{Fault}

-- below, by plain numbers
abbrev before : ℕ → ℕ → ℕ → ℕ → ℕ → ℕ → Bool
before file at number file' at' number' = if◌then◌else◌ (nat_eq file file') (if◌then◌else◌ (nat_eq at at') (nat_lt number number') (nat_lt at at')) (nat_lt file file')

same_numbers : (f a n f' a' n' : ℕ) → before f a n f' a' n' ≡ false → before f' a' n' f a n ≡ false → (f ≡ f') × (a ≡ a') × (n ≡ n')
same_numbers f a n f' a' n' x y = grind (arith, common_steps)

not_back : (f a n f' a' n' : ℕ) → before f a n f' a' n' ≡ true → before f' a' n' f a n ≡ false
not_back f a n f' a' n' x = grind (arith, common_steps)

goes_on : (f a n f' a' n' f'' a'' n'' : ℕ) → before f a n f' a' n' ≡ true → before f' a' n' f'' a'' n'' ≡ true → before f a n f'' a'' n'' ≡ true
goes_on f a n f' a' n' f'' a'' n'' x y = grind (arith, common_steps)

-- the reason of a number
abbrev why_of : ℕ → CheckWhy
why_of n =
    if◌then◌else◌ (nat_eq n 1) NoInclude (if◌then◌else◌ (nat_eq n 2) TwiceName (if◌then◌else◌ (nat_eq n 3) UnknownName (if◌then◌else◌ (nat_eq n 4) BadIdentifier
    (if◌then◌else◌ (nat_eq n 5) TwiceTag (if◌then◌else◌ (nat_eq n 6) TagRange (if◌then◌else◌ (nat_eq n 7) Float (if◌then◌else◌ (nat_eq n 8) BadKey
    (if◌then◌else◌ (nat_eq n 9) BadDefault (if◌then◌else◌ (nat_eq n 10) TooDeep (if◌then◌else◌ (nat_eq n 11) LeftOut TooMany))))))))))

why_back : (why : CheckWhy) → why_of (number_of why) ≡ why
why_back NoInclude = refl
why_back TwiceName = refl
why_back UnknownName = refl
why_back BadIdentifier = refl
why_back TwiceTag = refl
why_back TagRange = refl
why_back Float = refl
why_back BadKey = refl
why_back BadDefault = refl
why_back TooDeep = refl
why_back LeftOut = refl
why_back TooMany = refl

abbrev fault : ℕ → ℕ → CheckWhy → Fault
fault file at why = record { file = file; at = at; why = why }

same_fault : (x y : Fault) → is_below x y ≡ false → is_below y x ≡ false → x ≡ y
same_fault x y a b =
    let s = same_numbers x.file x.at (number_of x.why) y.file y.at (number_of y.why) a b in
    let w : x.why ≡ y.why = sym (why_back x.why) ∙ ap why_of s.2 ∙ why_back y.why in
    ap (λ file. fault file x.at x.why) s.0 ∙ ap (λ at. fault y.file at x.why) s.1 ∙ ap (fault y.file y.at) w

pub order : IsOrder is_below
order = record {
  apart = same_fault;
  one_way = λ x y a. not_back x.file x.at (number_of x.why) y.file y.at (number_of y.why) a;
  onward = λ x y z a b. goes_on x.file x.at (number_of x.why) y.file y.at (number_of y.why) z.file z.at (number_of z.why) a b;
}

pub noted_nothing : (old : Option Fault) → Notes is_below old old []
noted_nothing old = notes_nothing is_below order old

pub noted_both : {old mid new : Option Fault} {xs ys : List Fault} → Notes is_below old mid xs → Notes is_below mid new ys → Notes is_below old new (xs ++ ys)
noted_both one two = notes_both is_below order one two
