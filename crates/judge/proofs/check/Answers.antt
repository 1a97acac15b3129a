use Rattle.std.proofs.Common.{◌≡◌, refl, sym, ap, ℕ, length, length-take, arith}
use Rattle.judge.specs.declared.Checked.TheVariants.{NotYet, NoText, Few}
use Rattle.syntax.proofs.OneReading.{one_reading}
use Rattle.theory.proofs.Uniqueness.{inference_sound}
use Rattle.theory.proofs.InferenceComplete.{inference_complete}
use Rattle.judge.proofs.Sizes.{decls_few}
use Rattle.judge.proofs.Rows.{begun, few_bytes}
use Rattle.judge.proofs.check.Goals as goal
use Rattle.judge.proofs.check.Goals.{then-words-lt65536-via-then-words-lt65536, then-words-lt65536-via-else-words-lt65536+then-words-text}

-- Other answers are not Few.
not_yet_few : (n : ℕ) → NotYet n ≡ Few → ⊥
not_yet_few n e = let z : ◌≡◌ {A = ℕ} 0 1 = cc in (let f : ⊥ = omega arith in f)

no_text_few : NoText ≡ Few → ⊥
no_text_few e = let z : ◌≡◌ {A = ℕ} 0 1 = cc in (let f : ⊥ = omega arith in f)

pub returns-then-words-lt65536 : goal.returns-then-words-lt65536
returns-then-words-lt65536 c =
    record {
      says = tt;
      few = ((λ h. refl), (λ e. elim c.then-words-lt65536.branch [ then-words-lt65536-via-then-words-lt65536 w ↦ omega (arith, w.if-words-lt65536.true) | then-words-lt65536-via-else-words-lt65536+then-words-text w ↦ omega (arith, w.if-words-lt65536.false, w.if-words-text.true) ]));
      one_reading = one_reading;
      inference_sound = inference_sound;
      inference_complete = inference_complete;
    }

pub returns-in_default : goal.returns-in_default
returns-in_default c =
    record {
      says = c.in_default.ensures;
      few = ((λ h. absurd (let z : ⊥ = omega arith in z)), (λ e. absurd (no_text_few e)));
      one_reading = one_reading;
      inference_sound = inference_sound;
      inference_complete = inference_complete;
    }

pub returns-then-parsed-gt0 : goal.returns-then-parsed-gt0
returns-then-parsed-gt0 c =
    let d = c.in-Ok.ensures in
    record {
      says = (d.decls, d.reads, sym d.stage, c.if-parsed-gt0.true);
      few = ((λ h. absurd (let z : ⊥ = omega arith in z)), (λ e. absurd (not_yet_few _ e)));
      one_reading = one_reading;
      inference_sound = inference_sound;
      inference_complete = inference_complete;
    }

pub judge_row-requires : goal.judge_row-requires
judge_row-requires c =
    record { text = _; decls = _; begins = begun c.in-Ok.ensures c.if-parsed-gt0.false _ _ (omega arith) (omega arith) (omega arith) }

pub returns : goal.returns
returns c =
    let d = c.in-Ok.ensures in
    let b = begun d c.if-parsed-gt0.false (length c.parse.new.names) (length c.split_at_mut-names.result.1.now) (omega arith) (omega arith) (omega arith) in
    record {
      says = c.judge_row.ensures.says c.args.text.now d.decls (length c.args.work.now) b (omega (arith, b.counts, ap length b.stands, decls_few d.decls, few_bytes d.reads, d.fits, length-take c.in-Ok.parsed.words c.parse.new.out));
      few = ((λ h. absurd (let z : ⊥ = omega arith in z)), (λ e. absurd (c.judge_row.ensures.judged e)));
      one_reading = one_reading;
      inference_sound = inference_sound;
      inference_complete = inference_complete;
    }
