-- What is said of a text that does not read.
use Rattle.std.specs.Prelude.{ℕ, List, codes}
use Rattle.syntax.specs.declared.problem.Problem.{Problem}
use Rattle.syntax.specs.declared.problem.Problem.TheVariants.{TooLong, TooDeep, Twice, Declaration, Name, Number, Term, Script, Open, Close, OpenBrace, CloseBrace, Colon, Semicolon, Becomes, Maps, Arrow, Level, Again}

-- The phrase for each problem.
abbrev pub phrase : Problem → List ℕ
phrase TooLong = codes "the text has more than 32768 bytes"
phrase TooDeep = codes "more than 64 brackets are open"
phrase Twice = codes "a name is declared twice"
phrase Declaration = codes "a declaration was expected"
phrase Name = codes "a name was expected"
phrase Number = codes "a number of at most three digits was expected"
phrase Term = codes "a term was expected"
phrase Script = codes "a step of a script was expected"
phrase Open = codes "( and a name and : were expected"
phrase Close = codes ") was expected"
phrase OpenBrace = codes "{ was expected"
phrase CloseBrace = codes "} was expected"
phrase Colon = codes ": was expected"
phrase Semicolon = codes "; was expected"
phrase Becomes = codes ":= was expected"
phrase Maps = codes "=> was expected"
phrase Arrow = codes "-> was expected"
phrase Level = codes "Type and a number were expected"
phrase Again = codes "again was expected"
