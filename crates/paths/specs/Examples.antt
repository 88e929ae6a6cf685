-- Worked examples of paths.
use Rattle.std.specs.Prelude.{◌≡◌, ℕ, List, ◌∷◌, ◌++◌, length, codes}
use Rattle.address.specs.Words.{Dotted}
use Rattle.paths.specs.Paths.{PathAt, Fault}
use Rattle.address.specs.declared.words.Word.TheVariants.{Atom}

pub record Examples : Type 0 where
  pub reads : PathAt (codes "<a@b>") (record { at = 2; end = 5 })
  pub dots : Fault PathAt (codes "<a..b@c>") 2
  pub hyphen : Fault PathAt (codes "<a@-b>") 3
  pub unclosed : Fault PathAt (codes "<a@b") 4
  pub longest : (w : List ℕ) → Dotted Atom w → length w ≡ 64 → PathAt (60 ∷ (w ++ codes "@b>")) (record { at = 65; end = 68 })
  pub too_long : (w : List ℕ) → Dotted Atom w → length w ≡ 65 → Fault PathAt (60 ∷ (w ++ codes "@b>")) 2
