use Rattle.std.proofs.Common.{◌≡◌, ap, ◌∙◌, eq-eqb, refl, rules}
use Rattle.std.proofs.lemmas.Bool.{cond-true}
use Rattle.theory.specs.Terms.{lift}
use Rattle.terms.specs.declared.sign.Sign.TheVariants.{Var}
use Rattle.terms.specs.Words.{is_index_lem, sign_words, subst_words}
use Rattle.terms.proofs.Lifting.{writes_term, writes_as}
use Rattle.terms.proofs.subst.SubstitutingRule.put.Goals as goal

pub returns-then-eq : goal.returns-then-eq
returns-then-eq c u a =
    let e : c.args.sign ≡ Var (record { 0 = c.args.depth }) = search rules in
    writes_term _ _ _ _ (lift 0 c.args.depth u) _ (cond-true _ _ _ (ap (is_index_lem c.args.depth) e ∙ eq-eqb c.args.depth c.args.depth refl)) c.lift.result (c.lift.ensures u a.0 a.1)

pub returns : goal.returns
returns c u h =
    let e : sign_words c.lowered.result ≡ subst_words c.args.depth u c.args.sign = search rules in
    writes_as _ _ _ _ _ _ _ _ refl e (c.put_sign.ensures _)
