-- The theorem about elaboration, as a type.
use Rattle.std.specs.Prelude.{List}
use Rattle.theory.specs.Environment.{Env}
use Rattle.theory.specs.Typing.{WfEnv}
use Rattle.syntax.specs.Surface.{Decl}
use Rattle.elaboration.specs.Elaboration.{Global}
use Rattle.elaboration.specs.Declarations.{Checks}

-- What checks is a well-formed environment.
abbrev pub ChecksWf : Type 0
ChecksWf = (ds : List Decl) (gs : List Global) (e : Env) → Checks ds gs e → WfEnv e
