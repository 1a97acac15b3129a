-- What checks is a well-formed environment: every entry was admissible, so well-formed, in what was before it.
use Rattle.std.proofs.Common.{List}
use Rattle.theory.specs.Environment.{Env}
use Rattle.theory.specs.Typing.{WfEnv, env_end, env_more}
use Rattle.syntax.specs.Surface.{Decl}
use Rattle.elaboration.specs.Elaboration.{Global}
use Rattle.elaboration.specs.Declarations.{Checks, checks_end, checks_more}
use Rattle.elaboration.specs.Theorems.{ChecksWf}

-- The same by recursion on the derivation.
checked_wf : {ds : List Decl} {gs : List Global} {e : Env} → Checks ds gs e → WfEnv e
checked_wf checks_end = env_end
checked_wf (checks_more {c = c} before admissible forced) = env_more c (checked_wf before) admissible.1

pub checks_wf : ChecksWf
checks_wf ds gs e c = checked_wf c
