-- The words of the command line (docs/SCRIPTS.md, "Commands").
use Rattle.std.specs.Prelude.{◌≡◌, ℕ, Bool, true, false, ◌==◌, not, List, [], ◌∷◌, ◌++◌, codes}
use Rattle.idl_lex.specs.Forms.{IsWord}

-- no word is empty or begins with `-`
abbrev pub is_word : List ℕ → Bool
is_word [] = false
is_word (c ∷ cs) = not (c == 45)

-- a command and the name of a file
pub record AskFor (command : List ℕ) (words : List (List ℕ)) (file : List ℕ) : Type 0 where
  pub form : words ≡ command ∷ file ∷ []
  pub word : is_word file ≡ true

-- `check FILE`
abbrev pub AskForCheck : List (List ℕ) → List ℕ → Type 0
AskForCheck words file = AskFor (codes "check") words file

-- `plan SCRIPT`
abbrev pub AskForPlan : List (List ℕ) → List ℕ → Type 0
AskForPlan words script = AskFor (codes "plan") words script

-- `MODULE::NAME`, each an identifier or a keyword
pub record NamesStruct (word home name : List ℕ) : Type 0 where
  pub text : word ≡ home ++ (codes "::" ++ name)
  pub home_is : IsWord home
  pub name_is : IsWord name

-- a command, the name of an interface file, a struct, and the name of a file with its values
pub record AskOn (command : List ℕ) (words : List (List ℕ)) (file home name values : List ℕ) : Type 0 where
  pub struct : List ℕ
  pub form : words ≡ command ∷ file ∷ struct ∷ values ∷ []
  pub file_is : is_word file ≡ true
  pub struct_is : NamesStruct struct home name
  pub values_is : is_word values ≡ true

-- `encode FILE STRUCT VALUES`
abbrev pub AskForEncode : List (List ℕ) → List ℕ → List ℕ → List ℕ → List ℕ → Type 0
AskForEncode words file home name values = AskOn (codes "encode") words file home name values

-- `decode FILE STRUCT HEX`
abbrev pub AskForDecode : List (List ℕ) → List ℕ → List ℕ → List ℕ → List ℕ → Type 0
AskForDecode words file home name hex = AskOn (codes "decode") words file home name hex

-- `compat OLD NEW STRUCT`, of the names of two interface files
pub record AskForCompat (words : List (List ℕ)) (old new home name : List ℕ) : Type 0 where
  pub struct : List ℕ
  pub form : words ≡ codes "compat" ∷ old ∷ new ∷ struct ∷ []
  pub old_is : is_word old ≡ true
  pub new_is : is_word new ≡ true
  pub struct_is : NamesStruct struct home name

-- the words are no form of a command
pub record AreNoForm (words : List (List ℕ)) : Type 0 where
  pub no_check : (file : List ℕ) → ¬ AskForCheck words file
  pub no_plan : (script : List ℕ) → ¬ AskForPlan words script
  pub no_encode : (file home name values : List ℕ) → ¬ AskForEncode words file home name values
  pub no_decode : (file home name hex : List ℕ) → ¬ AskForDecode words file home name hex
  pub no_compat : (old new home name : List ℕ) → ¬ AskForCompat words old new home name
