-- Judging along a row of declarations: what is known when so many check and others are still to come, one lemma for each answer that
-- may be given then, and one for going on.
use Rattle.std.proofs.Common.{◌≡◌, ℕ, ◌<◌, true, false, List, [], ◌∷◌, ◌++◌, length, sym, refl, subst as tr, append_assoc, append-nil}
use Rattle.theory.specs.Environment.{Entry, Env}
use Rattle.theory.specs.Question.{TakesLonger, TakesMore}
use Rattle.syntax.specs.Surface.{Decl, stage}
use Rattle.syntax.specs.Grammar.{Reads}
use Rattle.elaboration.specs.Elaboration.{Global}
use Rattle.elaboration.specs.Declarations.{ElabDecl, Admissible, Forced, checks_end, checks_more, globals_of, plain_decl}
use Rattle.judge.specs.Promise.{landed, Standing, CheckedSays}
use Rattle.judge.specs.Judging.{Judged}
use Rattle.judge.specs.declared.Checked.TheVariants.{All, Refused, Open, Spent, NoRoom}

pub judged_none : (t : List ℕ) (ds : List Decl) → Reads t ds → stage ds < landed → Judged t [] ds [] []
judged_none t ds r s = record { reads = r; in_stage = s; checks = checks_end }

module _ (t : List ℕ) (most w : ℕ) (done : List Decl) (gs : List Global) (e : Env) where
  -- None are left.
  pub say_all : Judged t done [] gs e → CheckedSays t most w (All (length done))
  say_all j =
      (done, gs, e, tr (Reads t) (append-nil done) j.reads, tr (λ ds. stage ds < landed) (append-nil done) j.in_stage, j.checks, refl)

  module _ (d : Decl) (rest : List Decl) (j : Judged t done (d ∷ rest) gs e) where
    pub standing : Standing t (length done) d gs e
    standing = record { done = done; rest = rest; reads = j.reads; in_stage = j.in_stage; checks = j.checks; count = refl }

    -- The next has no derivation; leaves something out; takes more steps; takes more room.
    pub say_refused : ((c : Entry) → Admissible gs e d c → ⊥) → CheckedSays t most w (Refused (length done))
    say_refused h = (d, gs, e, standing, h)

    pub say_open : plain_decl gs d ≡ false → CheckedSays t most w (Open (length done))
    say_open h = (d, gs, e, standing, h)

    pub say_spent : (c : Entry) → plain_decl gs d ≡ true → ElabDecl gs d c → TakesLonger e c most → CheckedSays t most w (Spent (length done))
    say_spent c p s l = (d, gs, e, c, standing, p, s, l)

    pub say_no_room : (c : Entry) → plain_decl gs d ≡ true → ElabDecl gs d c → TakesMore e c most (length t) w → CheckedSays t most w (NoRoom (length done))
    say_no_room c p s l = (d, gs, e, c, standing, p, s, l)

    -- The next checks.
    pub go_on : (c : Entry) → Admissible gs e d c → Forced gs e d c → Judged t (done ++ (d ∷ [])) rest (gs ++ globals_of (length e) d) (e ++ (c ∷ []))
    go_on c a f =
        record {
          reads = tr (Reads t) (sym (append_assoc done (d ∷ []) rest)) j.reads;
          in_stage = tr (λ ds. stage ds < landed) (sym (append_assoc done (d ∷ []) rest)) j.in_stage;
          checks = checks_more j.checks a f;
        }
