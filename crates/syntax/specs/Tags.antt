-- The tags of a tree's words, as numbers.
use Rattle.std.specs.Prelude.{◌≡◌, ℕ, Some, Option}
use Rattle.syntax.specs.declared.tag.Tag.{Tag}
use Rattle.syntax.specs.declared.tag.Tag.TheVariants.{End, Name, Indexed, Full, Sort, Pi, Lam, App, Hole, By, Have, Param, Con, Def, Axiom, Data}

-- The number of each tag.
abbrev pub tag_word : Tag → ℕ
tag_word End = 0
tag_word Name = 1
tag_word Indexed = 2
tag_word Full = 3
tag_word Sort = 4
tag_word Pi = 5
tag_word Lam = 6
tag_word App = 7
tag_word Hole = 8
tag_word By = 9
tag_word Have = 10
tag_word Param = 11
tag_word Con = 12
tag_word Def = 13
tag_word Axiom = 14
tag_word Data = 15

-- The tag whose number a word is, if it is one's.
abbrev pub TagOf : ℕ → Option Tag → Type 0
TagOf word o = (t : Tag) → (o ≡ Some t → tag_word t ≡ word) × (tag_word t ≡ word → o ≡ Some t)
