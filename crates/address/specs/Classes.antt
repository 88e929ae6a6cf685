-- The classes of an octet.
use Rattle.std.specs.Prelude.{ℕ, ◌+◌, Bool, false, cond, ◌&&◌, ◌||◌, List, [], ◌∷◌, ◌==◌, nat_le}
use Rattle.address.specs.declared.classes.Class.{Class}
use Rattle.address.specs.declared.classes.Class.TheVariants.{Atext, Qtext, LetDig, Printable}

abbrev pub from_to : ℕ → ℕ → ℕ → Bool
from_to lo hi x = nat_le lo x && nat_le x hi

abbrev pub one_of : List ℕ → ℕ → Bool
one_of [] x = false
one_of (y ∷ ys) x = y == x || one_of ys x

-- Letters and digits.
unfoldable pub let_dig : ℕ → Bool
let_dig x = from_to 48 57 x || (from_to 65 90 x || from_to 97 122 x)

-- What a local part without quote marks takes: letters, digits and !#$%&'*+-/=?^_`{|}~
unfoldable pub atext : ℕ → Bool
unfolding let_dig
atext x =
    let_dig x
    || one_of (33 ∷ 35 ∷ 36 ∷ 37 ∷ 38 ∷ 39 ∷ 42 ∷ 43 ∷ 45 ∷ 47 ∷ 61 ∷ 63 ∷ 94 ∷ 95 ∷ 96 ∷ 123 ∷ 124 ∷ 125 ∷ 126 ∷ []) x

-- What a quoted local part takes without a backslash.
unfoldable pub qtext : ℕ → Bool
qtext x = from_to 32 33 x || (from_to 35 91 x || from_to 93 126 x)

-- The printable octets.
unfoldable pub printable : ℕ → Bool
printable x = from_to 32 126 x

abbrev pub member : Class → ℕ → Bool
member Atext x = atext x
member Qtext x = qtext x
member LetDig x = let_dig x
member Printable x = printable x

-- The sum of the numbers of the classes that an octet is in.
abbrev pub classes_of : ℕ → ℕ
classes_of x = cond (atext x) 1 0 + cond (qtext x) 2 0 + cond (let_dig x) 4 0 + cond (printable x) 8 0
