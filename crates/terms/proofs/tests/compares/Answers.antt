use Rattle.terms.proofs.Examples.{far, near, far_domain, near_domain}
use Rattle.terms.proofs.tests.compares.Goals as goal

pub end_of-requires : goal.end_of-requires
end_of-requires c k = far

pub end_of-requires-2 : goal.end_of-requires-2
end_of-requires-2 c k = far_domain

pub equal-requires : goal.equal-requires
equal-requires c k = record { left = far; right = far }

pub equal-requires-2 : goal.equal-requires-2
equal-requires-2 c k = record { left = far; right = near }

pub equal-requires-3 : goal.equal-requires-3
equal-requires-3 c k = record { left = far_domain; right = near_domain }
