-- The line that is written about a text.
use Rattle.std.specs.Prelude.{ℕ, List, ◌++◌, codes, decimal}
use Rattle.checker.specs.Answers.{reason_text}
use Rattle.checker.specs.declared.answer.Said.{Said}
use Rattle.checker.specs.declared.answer.Said.TheVariants.{All, Stopped, NotYet, NoText, Few}
use Rattle.checker.specs.declared.report.Line.{Line}

-- What is written behind the name.
abbrev pub said_text : Said → List ℕ
said_text (All n) = codes ": all " ++ decimal n
said_text (Stopped r n p) =
    codes ":" ++ (decimal p.line ++ (codes ": " ++ (reason_text r ++ (codes " after " ++ (decimal n ++ (codes ": " ++ (p.keyword.now ++ (codes " " ++ p.name.now))))))))
said_text (NotYet n) = codes ": not yet: stage " ++ decimal n
said_text (NoText f) = codes ":" ++ (decimal f.line ++ (codes ": no text: " ++ f.what.now))
said_text (Few w n) =
    codes ": few: " ++ (decimal w ++ (codes " words are too few for this text, at least " ++ (decimal n ++ codes " are needed")))

-- The line.
abbrev pub line_text : Line → List ℕ
line_text l = l.name.now ++ said_text l.said
