-- A schema is made from nothing, one declaration after the other; what was declared before stays what it was.
use Rattle.std.proofs.Common.{◌≡◌, ◌<◌, ℕ, Some, List, [], ◌∷◌, ◌++◌, length, refl, sym, ap, ◌∙◌, subst, arith, length-append, append_assoc, append-nil}
use Rattle.std.specs.Prelude.{slice_get}
use Rattle.tars_model.specs.Declarations.{Declared, nothing_declared, with_struct, with_enum, with_const, with_key, with_interface}
use Rattle.tars_model.specs.Schemas as made
use Rattle.tars_model.specs.Schemas.{StructFits, EnumFits, ConstFits, KeyFits, InterfaceFits, IsSchema}
use Rattle.tars_model.specs.declared.const_desc.ConstDesc.{ConstDesc}
use Rattle.tars_model.specs.declared.decl.Decl.{Decl}
use Rattle.tars_model.specs.declared.decl.Decl.TheVariants as decl
use Rattle.tars_model.specs.declared.enum_desc.EnumDesc.{EnumDesc}
use Rattle.tars_model.specs.declared.interface_desc.InterfaceDesc.{InterfaceDesc}
use Rattle.tars_model.specs.declared.key_desc.KeyDesc.{KeyDesc}
use Rattle.tars_model.specs.declared.struct_desc.StructDesc.{StructDesc}
use Rattle.idl_schema.proofs.Growing.{get_kept, get_new}

-- declarations that are made over the first ones, until all are there
pub data Grows (d : Declared) : Declared → Type 0 where
  done : {e : Declared} → e ≡ d → Grows d e
  struct : {e : Declared} {x : StructDesc} → StructFits e x → Grows d (with_struct e x) → Grows d e
  enum : {e : Declared} {x : EnumDesc} → EnumFits e x → Grows d (with_enum e x) → Grows d e
  const : {e : Declared} {x : ConstDesc} → ConstFits e x → Grows d (with_const e x) → Grows d e
  key : {e : Declared} {x : KeyDesc} → KeyFits e x → Grows d (with_key e x) → Grows d e
  interface : {e : Declared} {x : InterfaceDesc} → InterfaceFits e x → Grows d (with_interface e x) → Grows d e

grown_over : {e : Declared} (d : Declared) → IsSchema e → Grows d e → Grows d nothing_declared
grown_over d (made.nothing is) more = subst (Grows d) is more
grown_over d (made.struct before fits is) more = grown_over d before (struct fits (subst (Grows d) is more))
grown_over d (made.enum before fits is) more = grown_over d before (enum fits (subst (Grows d) is more))
grown_over d (made.const before fits is) more = grown_over d before (const fits (subst (Grows d) is more))
grown_over d (made.key before fits is) more = grown_over d before (key fits (subst (Grows d) is more))
grown_over d (made.interface before fits is) more = grown_over d before (interface fits (subst (Grows d) is more))

pub grown : (d : Declared) → IsSchema d → Grows d nothing_declared
grown d schema = grown_over d schema (done refl)

-- ---- what was declared before

-- a later list has the elements of an earlier one, each at its place
abbrev pub Kept : {X : Type 0} → List X → List X → Type 0
Kept later earlier = (k : ℕ) → k < length earlier → slice_get later k ≡ slice_get earlier k

-- all declarations have those that were made before, in the same order
pub record Grown (d e : Declared) : Type 0 where
  pub structs : Kept d.structs e.structs
  pub enums : Kept d.enums e.enums
  pub consts : Kept d.consts e.consts
  pub keys : Kept d.keys e.keys
  pub interfaces : Kept d.interfaces e.interfaces
  pub rest : List Decl
  pub order : d.order ≡ e.order ++ rest

one_less : {X : Type 0} (later earlier : List X) (x : X) → Kept later (earlier ++ x ∷ []) → Kept later earlier
one_less later earlier x kept k less = let longer = length-append earlier (x ∷ []) in kept k (omega arith) ∙ get_kept earlier x k less

pub newest : {X : Type 0} (later earlier : List X) (x : X) → Kept later (earlier ++ x ∷ []) → slice_get later (length earlier) ≡ Some x
newest later earlier x kept = let longer = length-append earlier (x ∷ []) in kept (length earlier) (omega arith) ∙ get_new earlier x

order_less : (whole before : List Decl) (x : Decl) (rest : List Decl) → whole ≡ (before ++ x ∷ []) ++ rest → whole ≡ before ++ x ∷ rest
order_less whole before x rest is = is ∙ append_assoc before (x ∷ []) rest

pub what_is_kept : (d : Declared) {e : Declared} → Grows d e → Grown d e
what_is_kept d {e} (done is) =
    subst (λ e. Grown d e) (sym is) (record { structs = λ k less. refl; enums = λ k less. refl; consts = λ k less. refl; keys = λ k less. refl; interfaces = λ k less. refl; rest = []; order = sym (append-nil d.order) })
what_is_kept d {e} (struct {x = x} fits more) =
    let then = what_is_kept d more in
    record {
      structs = one_less d.structs e.structs x then.structs;
      enums = then.enums;
      consts = then.consts;
      keys = then.keys;
      interfaces = then.interfaces;
      rest = decl.Struct (length e.structs) ∷ then.rest;
      order = order_less d.order e.order (decl.Struct (length e.structs)) then.rest then.order;
    }
what_is_kept d {e} (enum {x = x} fits more) =
    let then = what_is_kept d more in
    record {
      structs = then.structs;
      enums = one_less d.enums e.enums x then.enums;
      consts = then.consts;
      keys = then.keys;
      interfaces = then.interfaces;
      rest = decl.Enum (length e.enums) ∷ then.rest;
      order = order_less d.order e.order (decl.Enum (length e.enums)) then.rest then.order;
    }
what_is_kept d {e} (const {x = x} fits more) =
    let then = what_is_kept d more in
    record {
      structs = then.structs;
      enums = then.enums;
      consts = one_less d.consts e.consts x then.consts;
      keys = then.keys;
      interfaces = then.interfaces;
      rest = decl.Const (length e.consts) ∷ then.rest;
      order = order_less d.order e.order (decl.Const (length e.consts)) then.rest then.order;
    }
what_is_kept d {e} (key {x = x} fits more) =
    let then = what_is_kept d more in
    record {
      structs = then.structs;
      enums = then.enums;
      consts = then.consts;
      keys = one_less d.keys e.keys x then.keys;
      interfaces = then.interfaces;
      rest = decl.Key (length e.keys) ∷ then.rest;
      order = order_less d.order e.order (decl.Key (length e.keys)) then.rest then.order;
    }
what_is_kept d {e} (interface {x = x} fits more) =
    let then = what_is_kept d more in
    record {
      structs = then.structs;
      enums = then.enums;
      consts = then.consts;
      keys = then.keys;
      interfaces = one_less d.interfaces e.interfaces x then.interfaces;
      rest = decl.Interface (length e.interfaces) ∷ then.rest;
      order = order_less d.order e.order (decl.Interface (length e.interfaces)) then.rest then.order;
    }

-- ---- the order

pub same_first : {X : Type 0} (x y : X) (xs ys : List X) → x ∷ xs ≡ y ∷ ys → x ≡ y
same_first x y xs ys e = cc

pub same_rest : {X : Type 0} (x y : X) (xs ys : List X) → x ∷ xs ≡ y ∷ ys → xs ≡ ys
same_rest x y xs ys e = cc

cancelled : {X : Type 0} (before xs ys : List X) → before ++ xs ≡ before ++ ys → xs ≡ ys
cancelled [] xs ys e = e
cancelled (x ∷ before) xs ys e = cancelled before xs ys (same_rest x x (before ++ xs) (before ++ ys) e)

-- the next declaration of the order is the one that is made next
pub next_is : (whole before : List Decl) (made next : Decl) (later rest : List Decl) → whole ≡ (before ++ made ∷ []) ++ later → whole ≡ before ++ next ∷ rest → (next ≡ made) × (whole ≡ (before ++ made ∷ []) ++ rest)
next_is whole before made next later rest grown is =
    let same : made ∷ later ≡ next ∷ rest = cancelled before (made ∷ later) (next ∷ rest) (sym (append_assoc before (made ∷ []) later) ∙ sym grown ∙ is) in
    (sym (same_first made next later rest same), grown ∙ ap (λ l. (before ++ made ∷ []) ++ l) (same_rest made next later rest same))

no_more : (before : List Decl) (next : Decl) (rest : List Decl) → before ≡ before ++ next ∷ rest → ⊥
no_more [] next rest e = cc
no_more (x ∷ before) next rest e = no_more before next rest (same_rest x x before (before ++ next ∷ rest) e)

-- where nothing is left to be made, no declaration is left
pub none_left : {A : Type 0} (e d : Declared) (next : Decl) (rest : List Decl) → e ≡ d → d.order ≡ e.order ++ next ∷ rest → A
none_left e d next rest is order = absurd (no_more e.order next rest (ap (λ (d : Declared). d.order) is ∙ order))

-- and where no declaration is left, all are there
at_end : {A : Type 0} (d : Declared) (before : List Decl) (made : Decl) (later : List Decl) → d.order ≡ (before ++ made ∷ []) ++ later → d.order ≡ before ++ [] → A
at_end d before made later grown is = absurd (no_more before made later (sym (append-nil before) ∙ sym is ∙ grown ∙ append_assoc before (made ∷ []) later))

pub all_there : (d : Declared) {e : Declared} → Grows d e → d.order ≡ e.order ++ [] → e ≡ d
all_there d {e} (done is) none = is
all_there d {e} (struct fits more) none = let then = what_is_kept d more in at_end d e.order _ then.rest then.order none
all_there d {e} (enum fits more) none = let then = what_is_kept d more in at_end d e.order _ then.rest then.order none
all_there d {e} (const fits more) none = let then = what_is_kept d more in at_end d e.order _ then.rest then.order none
all_there d {e} (key fits more) none = let then = what_is_kept d more in at_end d e.order _ then.rest then.order none
all_there d {e} (interface fits more) none = let then = what_is_kept d more in at_end d e.order _ then.rest then.order none
