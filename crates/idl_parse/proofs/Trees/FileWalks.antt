-- Declarations and files, token by token (`Walks`).
use Rattle.std.proofs.Common.{ℕ, List, refl}
use Rattle.std.proofs.lemmas.List.Elements.{All-nil, All-cons}
use Rattle.std.specs.List.{All}
use Rattle.idl_parse.specs.Grammar.{Block, Listed, Member, Struct, Item, Items, Enum, Const, Key, Param, Ret, Params, Func, Interface, Decl, Module, EntryOf}
use Rattle.idl_parse.specs.TreeSpans.{IfThere, TypeIn, MemberIn, ItemIn, ParamIn, FuncIn, DeclIn, EntryIn}
use Rattle.idl_parse.specs.Rules.{Rel, Many}
use Rattle.idl_parse.specs.Words.{requirement_of}
use Rattle.idl_lex.specs.declared.keyword.Keyword.TheVariants as words
use Rattle.idl_lex.specs.declared.kind.Kind.TheVariants as kinds
use Rattle.idl_lex.specs.declared.sign.Sign.TheVariants.{OpenBrace, CloseBrace, OpenParen, CloseParen, OpenBracket, CloseBracket, Comma, Semicolon, Equals}
use Rattle.idl_parse.proofs.Parsing.Deriving.Literals.{requirements_flat}
use Rattle.idl_parse.proofs.Trees.Walks.{Walks, after, gives, one, means, either, maybe, many, saying, spanned}
use Rattle.idl_parse.proofs.Trees.TypeWalks.{array, literal, types, typed}

block : {A : Type 0} {text : List ℕ} {limit : ℕ} {P P' : Rel A} {E : A → Type 0} → Walks text limit 0 0 P P' E → Walks text limit 0 0 (Block P) (Block P') (All E)
block r = after (many (after r (λ x. after (one (kinds.Sign Semicolon) refl) (λ _. gives (λ _ e. e))))) (λ xs. after (one (kinds.Sign CloseBrace) refl) (λ _. gives (λ _ es. es)))

listed : {A : Type 0} {text : List ℕ} {limit : ℕ} {P P' : Rel A} {E : A → Type 0} → Walks text limit 0 0 P P' E → Walks text limit 0 0 (Listed P) (Listed P') (All E)
listed {E = E} r =
    after r (λ x. after (many (after (one (kinds.Sign Comma) refl) (λ _. saying (λ y e _. e) r))) (λ xs. gives (λ es e. All-cons E x xs e es)))

module _ (text : List ℕ) (depth limit : ℕ) where
  member : Walks text limit 0 0 (Member depth) (Member limit) (MemberIn text)
  member =
      after (spanned kinds.Number refl) (λ tag. after (means requirement_of (λ kind x is. requirements_flat kind x 0 is)) (λ requirement. after (typed text depth limit) (λ typed. after (maybe array) (λ array.
      after (maybe (after (one (kinds.Sign Equals) refl) (λ _. saying (λ y e _. e) literal))) (λ default.
      gives (λ d a t _ n. record { tag = n; typed = t; array = a; default = d }))))))

  struct : Walks text limit 0 0 (Struct depth) (Struct limit) (DeclIn text)
  struct =
      after (one (kinds.Keyword words.Struct) refl) (λ _. after (spanned kinds.Ident refl) (λ name. after (one (kinds.Sign OpenBrace) refl) (λ _. after (block member) (λ members.
      gives (λ ms _ n _. (n, ms))))))

  item : Walks text limit 0 0 Item Item (ItemIn text)
  item =
      after (spanned kinds.Ident refl) (λ name. after (maybe (after (one (kinds.Sign Equals) refl) (λ _. saying (λ y e _. e) (spanned kinds.Number refl)))) (λ number.
      gives (λ m n. (n, m))))

  items : Walks text limit 0 0 Items Items (All (ItemIn text))
  items =
      either (after (listed item) (λ items. after (maybe (one (kinds.Sign Comma) refl)) (λ _. gives (λ _ is. is)))) (gives (All-nil (ItemIn text)))

  enum : Walks text limit 0 0 Enum Enum (DeclIn text)
  enum =
      after (one (kinds.Keyword words.Enum) refl) (λ _. after (spanned kinds.Ident refl) (λ name. after (one (kinds.Sign OpenBrace) refl) (λ _. after items (λ items.
      after (one (kinds.Sign CloseBrace) refl) (λ _. gives (λ _ is _ n _. (n, is)))))))

  const : Walks text limit 0 0 (Const depth) (Const limit) (DeclIn text)
  const =
      after (one (kinds.Keyword words.Const) refl) (λ _. after (typed text depth limit) (λ typed. after (one (kinds.Sign Equals) refl) (λ _. after literal (λ value.
      gives (λ v _ t _. (t, v))))))

  key : Walks text limit 0 0 Key Key (DeclIn text)
  key =
      after (one (kinds.Keyword words.Key) refl) (λ _. after (one (kinds.Sign OpenBracket) refl) (λ _. after (spanned kinds.Ident refl) (λ struct_name.
      after (many (after (one (kinds.Sign Comma) refl) (λ _. saying (λ y e _. e) (spanned kinds.Ident refl)))) (λ members.
      after (one (kinds.Sign CloseBracket) refl) (λ _. gives (λ _ ms n _ _. (n, ms)))))))

  param : Walks text limit 0 0 (Param depth) (Param limit) (ParamIn text)
  param =
      after (maybe (one (kinds.Keyword words.Routekey) refl)) (λ routekey. after (maybe (one (kinds.Keyword words.Out) refl)) (λ out. after (typed text depth limit) (λ typed.
      gives (λ t _ _. t))))

  ret : Walks text limit 0 0 (Ret depth) (Ret limit) (IfThere (TypeIn text))
  ret =
      either (after (one (kinds.Keyword words.Void) refl) (λ _. gives (λ _. tt))) (after (types text depth limit) (λ ty. gives (λ t. t)))

  params : Walks text limit 0 0 (Params depth) (Params limit) (All (ParamIn text))
  params = either (listed param) (gives (All-nil (ParamIn text)))

  func : Walks text limit 0 0 (Func depth) (Func limit) (FuncIn text)
  func =
      after ret (λ ret. after (spanned kinds.Ident refl) (λ name. after (one (kinds.Sign OpenParen) refl) (λ _. after params (λ params.
      after (one (kinds.Sign CloseParen) refl) (λ _. gives (λ _ ps _ n t. record { ret = t; name = n; params = ps }))))))

  interface : Walks text limit 0 0 (Interface depth) (Interface limit) (DeclIn text)
  interface =
      after (one (kinds.Keyword words.Interface) refl) (λ _. after (spanned kinds.Ident refl) (λ name. after (one (kinds.Sign OpenBrace) refl) (λ _. after (block func) (λ funcs.
      gives (λ fs _ n _. (n, fs))))))

  decl : Walks text limit 0 0 (Decl depth) (Decl limit) (DeclIn text)
  decl = either struct (either enum (either const (either key interface)))

  «module» : Walks text limit 0 0 (Module depth) (Module limit) (EntryIn text)
  «module» =
      after (one (kinds.Keyword words.Module) refl) (λ _. after (spanned kinds.Ident refl) (λ name. after (one (kinds.Sign OpenBrace) refl) (λ _. after (block decl) (λ decls.
      after (one (kinds.Sign Semicolon) refl) (λ _. gives (λ _ ds _ n _. (n, ds)))))))

  entry : Walks text limit 0 0 (EntryOf depth) (EntryOf limit) (EntryIn text)
  entry =
      either (after (one kinds.Include refl) (λ _. after (spanned kinds.Text refl) (λ span. gives (λ p _. p)))) «module»

  pub entries : Walks text limit 0 0 (Many (EntryOf depth)) (Many (EntryOf limit)) (All (EntryIn text))
  entries = many entry
