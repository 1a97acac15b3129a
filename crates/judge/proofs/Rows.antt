-- Judging along a row of declarations: where it begins, goes on and ends.
use Rattle.std.proofs.Common.{◌≡◌, ℕ, ◌+◌, ◌*◌, ◌<◌, ◌≤◌, List, [], ◌∷◌, ◌++◌, length, take, Ok, Err, refl, ap, ◌∙◌, subst as tr, length-append, length-take, append_assoc, leb, arith}
use Rattle.std.proofs.lemmas.Bool.{leb-true, leb-false}
use Rattle.theory.specs.Environment.{Env}
use Rattle.theory.proofs.Options.{none-some, cases_bool}
use Rattle.syntax.proofs.WholeText.{too_long}
use Rattle.syntax.specs.Surface.{Decl, d_def, d_axiom, d_data, names_of, stage}
use Rattle.syntax.specs.Grammar.{Reads}
use Rattle.syntax.specs.Declaring.{ParsedPost}
use Rattle.syntax.specs.declared.parse.Parsed.{Parsed}
use Rattle.elaboration.specs.Elaboration.{Global}
use Rattle.reduction.specs.Store.{EnvAt}
use Rattle.resolver.specs.Names.{no_rows}
use Rattle.kernel.specs.declared.failure.Failure.{Failure}
use Rattle.kernel.specs.declared.failure.Failure.TheVariants.{Refused, Spent, NoRoom}
use Rattle.judge.specs.declared.Checked.TheVariants as answer
use Rattle.judge.specs.declared.row.Spot.{Spot}
use Rattle.judge.specs.Promise.{CheckedSays}
use Rattle.judge.specs.Judging.{Judging, CanJudge, Begins, Steps, stop_answer}
use Rattle.judge.proofs.Sizes.{decls_few}
use Rattle.judge.proofs.Standings.{judged_none, say_all, say_refused, say_spent, say_no_room}

-- A declaration of the core declares one name.
core_names : (ds : List Decl) → stage ds < 1 → length (names_of ds) ≡ length ds
core_names [] s = refl
core_names (d_def x h a b ∷ ds) s = omega (arith, core_names ds (omega arith))
core_names (d_axiom x h a ∷ ds) s = omega (arith, core_names ds (omega arith))
core_names (d_data x h ps l cs ∷ ds) s = absurd (let z : ⊥ = omega arith in z)

-- Judging stands behind n of the declarations ds.
pub record Along (t tree index table store : List ℕ) (words : ℕ) (s : Spot) (n : ℕ) (ds : List Decl) : Type 0 where
  pub done : List Decl
  pub rest : List Decl
  pub globals : List Global
  pub env : Env
  pub judging : Judging t tree index table store words s done rest globals env
  pub whole : done ++ rest ≡ ds
  pub counted : length done ≡ n

-- A text has at most 32,768 bytes.
pub few_bytes : {t : List ℕ} {ds : List Decl} → Reads t ds → length t ≤ 32768
few_bytes {t} {ds} r = cases_bool (leb (length t) 32768) (λ q. leb-true (length t) 32768 q) (λ q. absurd (too_long t (leb-false (length t) 32768 q) ds r))

-- What was read stands in the tree, and there is room for judging it in the words that are promised.
pub begun : {t out : List ℕ} {p : Parsed} (d : ParsedPost t out p) → p.stage ≤ 0 → (words room : ℕ) → length out ≡ 4 * length t → words ≡ 3 * length t → 65536 + 9 * length t ≤ room
    → Begins t (take p.words out) p.count words room d.decls
begun {t} {out} {p} d z words room lo lw lr =
    let n : length t ≤ 32768 = few_bytes d.reads in
    let k : length (take p.words out) ≡ p.words = omega (arith, length-take p.words out, d.fits) in
    record {
      reads = d.reads;
      in_stage = omega (arith, d.stage);
      stands = d.words;
      counts = d.count;
      short = omega (arith, d.fits);
      words_room = omega (arith, d.fits);
      env_room = omega (arith, d.fits, d.count, decls_few d.decls, ap length d.words);
    }

empty_env : (index store : List ℕ) → EnvAt (take 0 index) (take 0 store) []
empty_env index store = record { counted = refl; entries = λ i d p. none-some p }

-- It stands before the first.
pub along_first : {t tree : List ℕ} {count words room : ℕ} {ds : List Decl} → Begins t tree count words room ds → (index table store : List ℕ)
    → length index ≡ 2 * count → length table ≡ 4 * count → 2 * length tree ≤ length store + 4 * count
    → Along t tree index table store words (record { place = 0; count = 0; rows = 0; used = 0 }) 0 ds
along_first {t} {tree} {count} {words} {room} {ds} b index table store li lt ls = record {
  done = [];
  rest = ds;
  globals = [];
  env = [];
  judging = record {
    judged = judged_none t ds b.reads b.in_stage;
    count = refl;
    tree_at = b.stands;
    tree_short = b.short;
    all_few = omega (arith, decls_few ds, b.short, ap length b.stands);
    globals = no_rows;
    stored = empty_env index store;
    index_room = omega (arith, li, b.counts);
    table_room = omega (arith, lt, b.counts, core_names ds b.in_stage);
    store_room = omega (arith, ls, b.counts, core_names ds b.in_stage, ap length b.stands);
    words_room = omega (arith, b.words_room, ap length b.stands);
  };
  whole = refl;
  counted = refl;
}

-- Before the last there is a next one.
pub can_judge : {t tree index table store : List ℕ} {words : ℕ} {s : Spot} {n : ℕ} {ds : List Decl} → Along t tree index table store words s n ds → n < length ds
    → CanJudge tree index table store words s
can_judge {t} {tree} {index} {table} {store} {words} {s} {n} {ds} a l = at a.rest a.judging a.whole
  where
    at : (rest : List Decl) → Judging t tree index table store words s a.done rest a.globals a.env → a.done ++ rest ≡ ds → CanJudge tree index table store words s
    at [] j w = absurd (let z : ⊥ = omega (arith, l, a.counted, ap length w, length-append a.done []) in z)
    at (d ∷ rest) j w = record { text = t; done = a.done; next = d; rest = rest; globals = a.globals; env = a.env; judging = j }

-- It goes on behind the next.
pub along_next : {t tree index table store index' table' store' : List ℕ} {words words' n : ℕ} {s s' : Spot} {ds : List Decl} (most w : ℕ) → Along t tree index table store words s n ds → n < length ds
    → ((done : List Decl) (d : Decl) (rest : List Decl) (gs : List Global) (e : Env) → Judging t tree index table store words s done (d ∷ rest) gs e
    → Steps t tree index' table' store' words' most w done d rest gs e (Ok s'))
    → Along t tree index' table' store' words' s' (n + 1) ds
along_next {t} {tree} {index} {table} {store} {index'} {table'} {store'} {words} {words'} {n} {s} {s'} {ds} most w a l f = at a.rest a.judging a.whole
  where
    at : (rest : List Decl) → Judging t tree index table store words s a.done rest a.globals a.env → a.done ++ rest ≡ ds → Along t tree index' table' store' words' s' (n + 1) ds
    at [] j q = absurd (let z : ⊥ = omega (arith, l, a.counted, ap length q, length-append a.done []) in z)
    at (d ∷ rest) j q =
        let (c, k) = f a.done d rest a.globals a.env j in
        record { done = a.done ++ (d ∷ []); rest = rest; globals = _; env = _; judging = k; whole = append_assoc a.done (d ∷ []) rest ∙ q; counted = omega (arith, a.counted, length-append a.done (d ∷ [])) }

-- It stops at the next.
pub stops : {t tree index table store : List ℕ} {words n : ℕ} {s : Spot} {ds : List Decl} (index' table' store' : List ℕ) (words' most w : ℕ) → Along t tree index table store words s n ds → n < length ds → (f : Failure) (all : ℕ)
    → all ≤ 65536 + (16 * length t + w)
    → ((done : List Decl) (d : Decl) (rest : List Decl) (gs : List Global) (e : Env) → Judging t tree index table store words s done (d ∷ rest) gs e
    → Steps t tree index' table' store' words' most w done d rest gs e (Err f))
    → CheckedSays t most all (stop_answer f n)
stops {t} {tree} {index} {table} {store} {words} {n} {s} {ds} index' table' store' words' most w a l f all m h =
    tr (λ (k : ℕ). CheckedSays t most all (stop_answer f k)) a.counted (at a.rest a.judging a.whole)
  where
    by : (d : Decl) (rest : List Decl) (f : Failure) → Judging t tree index table store words s a.done (d ∷ rest) a.globals a.env → Steps t tree index' table' store' words' most w a.done d rest a.globals a.env (Err f)
        → CheckedSays t most all (stop_answer f (length a.done))
    by d rest Refused j x = say_refused t most all a.done a.globals a.env d rest j.judged x
    by d rest Spent j (c, p, x) = say_spent t most all a.done a.globals a.env d rest j.judged c p.plain p.elab x
    by d rest NoRoom j (c, p, x) =
        say_no_room t most all a.done a.globals a.env d rest j.judged c p.plain p.elab
        (x.reached.start, x.term, x.reached.steps, x.reached.asked, x.reached.within, x.reached.reaches, omega (arith, x.large, m))

    at : (rest : List Decl) → Judging t tree index table store words s a.done rest a.globals a.env → a.done ++ rest ≡ ds → CheckedSays t most all (stop_answer f (length a.done))
    at [] j q = absurd (let z : ⊥ = omega (arith, l, a.counted, ap length q, length-append a.done []) in z)
    at (d ∷ rest) j q = by d rest f j (h a.done d rest a.globals a.env j)

-- It ends behind the last.
pub ends : {t tree index table store : List ℕ} {words n : ℕ} {s : Spot} {ds : List Decl} → Along t tree index table store words s n ds → length ds ≤ n → (most all count : ℕ) → count ≡ length ds
    → CheckedSays t most all (answer.All count)
ends {t} {tree} {index} {table} {store} {words} {n} {s} {ds} a l most all count p = at a.rest a.judging a.whole
  where
    at : (rest : List Decl) → Judging t tree index table store words s a.done rest a.globals a.env → a.done ++ rest ≡ ds → CheckedSays t most all (answer.All count)
    at [] j q = tr (λ (k : ℕ). CheckedSays t most all (answer.All k)) (let z : length a.done ≡ count = omega (arith, p, ap length q, length-append a.done []) in z) (say_all t most all a.done a.globals a.env j.judged)
    at (d ∷ rest) j q = absurd (let z : ⊥ = omega (arith, l, a.counted, ap length q, length-append a.done (d ∷ rest)) in z)
