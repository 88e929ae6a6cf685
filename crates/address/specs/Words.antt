-- Words with dots between them: atoms in a local part, labels in a domain.
use Rattle.std.specs.Prelude.{◌≡◌, ℕ, ◌-◌, ◌≤◌, Bool, true, ◌||◌, List, length, take, ◌==◌, slice_index}
use Rattle.std.specs.List.{prefix_len, slice_split, AllByRecursion}
use Rattle.address.specs.Classes.{atext, let_dig}
use Rattle.address.specs.declared.words.Word.{Word}
use Rattle.address.specs.declared.words.Word.TheVariants.{Atom, Label}

-- Every octet passes a test.
abbrev pub AllIn : (ℕ → Bool) → List ℕ → Type 0
AllIn p xs = AllByRecursion (λ x. p x ≡ true) xs

-- The longest run of octets that pass a test, at the front.
abbrev pub run : (ℕ → Bool) → List ℕ → List ℕ
run p xs = take (prefix_len p xs) xs

-- An atom: one or more octets that a local part takes without quote marks.
pub record IsAtom (w : List ℕ) : Type 0 where
  pub some : 1 ≤ length w
  pub octets : AllIn atext w

abbrev pub label_octet : ℕ → Bool
label_octet x = let_dig x || x == 45

-- A label: 1 to 63 letters, digits and "-", with a letter or a digit first and last.
pub record IsLabel (w : List ℕ) : Type 0 where
  pub some : 1 ≤ length w
  pub few : length w ≤ 63
  pub octets : AllIn label_octet w
  pub first : let_dig (slice_index w 0) ≡ true
  pub last : let_dig (slice_index w (length w - 1)) ≡ true

abbrev pub word_octet : Word → ℕ → Bool
word_octet Atom = atext
word_octet Label = label_octet

abbrev pub IsWord : Word → List ℕ → Type 0
IsWord Atom w = IsAtom w
IsWord Label w = IsLabel w

-- What stands before the first dot, between the dots and behind the last one.
abbrev pub pieces : List ℕ → List (List ℕ)
pieces xs = slice_split (λ x. x == 46) xs

-- Words with a dot between each and the next.
abbrev pub Dotted : Word → List ℕ → Type 0
Dotted word xs = AllByRecursion (IsWord word) (pieces xs)

-- An octet of words, or a dot.
abbrev pub or_dot : (ℕ → Bool) → ℕ → Bool
or_dot p x = p x || x == 46
