-- A sheet whose representatives were replaced. Assumes nothing.
use Rattle.std.proofs.Common.{◌≡◌, ℕ, ◌-◌, ◌≤◌, Bool, true, false, cond, List, [], length, take, Some, None, Option, sym, refl, ap, ◌∙◌, subst, arith}
use Rattle.std.proofs.lemmas.Bool.{both_ways}
use Rattle.cnf.specs.Words.{encode, read}
use Rattle.cnf.specs.Table.{by}
use Rattle.cnf.proofs.Reading.{read_means}
use Rattle.propagation.specs.Propagate.{Rewritten, rewritten, Leaves}
use Rattle.propagation.specs.Laws.{Lasts, Outcome}
use Rattle.propagation.proofs.Keeping.{rewriting_keeps}
use Rattle.sheet.specs.declared.outcome.Counts.{Counts}
use Rattle.sheet.specs.declared.outcome.Outcome.TheVariants.{Settled}
use Rattle.sheet.specs.declared.sheet.Sheet.{Sheet}
use Rattle.sheet.specs.State.{State, Sound}
use Rattle.sheet.specs.Of.{state_of}
use Rattle.sheet.specs.Calls.{contradicted, landed, newly, outcome}
use Rattle.sheet.specs.Sweep.{Ready}
use Rattle.sheet.proofs.Keeping.{Lands, sheet_kept, lands}
use Rattle.sheet.proofs.Sounding.{emptied, sound_emptied}
use Rattle.sheet.proofs.Swept.{pending_whole, room_for_one}

-- what a rewriting may leave to a sheet
abbrev pub Fine : State → Option Rewritten → Type 0
Fine s None = 1 ≤ s.space
Fine s (Some p) = Lasts s.table s.store p.table p.clauses

outcome_fine : (s : State) (f : ℕ → ℕ) → Sound s → (o : Option Rewritten) → rewritten f s.table s.store ≡ o → Outcome s.table s.store o → Fine s o
outcome_fine s f w None e h = room_for_one s f w e
outcome_fine s f w (Some p) e h = h

pub ready_fine : (s : State) (entries : List ℕ) (found : Bool) → Sound s → Ready s entries found → Fine s (cond found (rewritten (by entries) s.table s.store) None)
ready_fine s entries true w r = outcome_fine s (by entries) w _ refl (rewriting_keeps s.table s.store (by entries) w.reduced r.moves r.agrees)
ready_fine s entries false w r = r

sound_landed : (s : State) (p : Rewritten) → Sound s → Lasts s.table s.store p.table p.clauses → Sound (landed s (Some p))
sound_landed s p w l = record {
  few = w.few;
  size = l.size ∙ w.size;
  reduced = l.reduced;
  room = omega (arith, l.fewer, w.room);
  alone = λ b. absurd (both_ways _ (pending_whole p.clauses l.rest) b);
  quiet = λ b. absurd (both_ways _ (pending_whole p.clauses l.rest) b);
  nets_wait = w.nets_wait;
}

-- what is left of a sheet: nothing where its clauses have no model
abbrev pub over : Sheet → Bool → Option Rewritten
over s found = cond found (rewritten (by s.news.items) (state_of s).table (state_of s).store) None

-- a sheet's representatives were replaced, and `next` and the front of `part` hold what is left
pub record Replaced (s : Sheet) (found : Bool) (next part : List ℕ) (r : Option ℕ) : Type 0 where
  pub fine : Fine (state_of s) (over s found)
  pub leaves : Leaves (over s found) next part r

pub replaced : (s : Sheet) (found : Bool) (news table words next part : List ℕ) (r : Option ℕ) → Ready (state_of s) s.news.items found → found ≡ true
    → news ≡ s.news.items → table ≡ s.table.items → words ≡ s.words.items → (encode (read words) ≡ words → Leaves (rewritten (by news) table (read words)) next part r)
    → Replaced s found next part r
replaced s found news table words next part r ready e p q w h =
    let k = sheet_kept s in
    let o : rewritten (by news) table (read words) ≡ over s found = cc in
    record {
      fine = ready_fine (state_of s) s.news.items found k.sound ready;
      leaves = subst (λ x. Leaves x next part r) o (h (ap (λ xs. encode (read xs)) w ∙ (read_means _ _ k.formed).0 ∙ sym w));
    }

-- nothing is left: there is room for the empty clause, and the sheet becomes contradictory
pub none_left : (s : State) (o : Option Rewritten) (next part : List ℕ) → Fine s o → Leaves o next part None → (1 ≤ s.space) × (landed s o ≡ contradicted s)
none_left s None next part f l = (f, refl)
none_left s (Some p) next part f l = absurd (let n : ◌≡◌ {A = ℕ} 0 1 = (let k = l.0 in cc) in omega arith)

pub replaced_none : (s : Sheet) (found : Bool) (next part : List ℕ) → Replaced s found next part None → (1 ≤ s.space) × (landed (state_of s) (over s found) ≡ contradicted (state_of s))
replaced_none s found next part w = none_left (state_of s) (over s found) next part w.fine w.leaves

-- a sheet whose words were taken away
pub lands_emptied : (s : Sheet) (words : List ℕ) → words ≡ [] → Lands s.table.items words s.space s.waiting.items (emptied (state_of s))
lands_emptied s words e =
    let k = sheet_kept s in
    lands s.table.items words s.space s.waiting.items (emptied (state_of s)) (sound_emptied (state_of s) k.sound) refl refl refl e (λ _. refl) k.marked

-- something is left: it stands in `table`, and at the front of the words
lands_left : (s : Sheet) (o : Option Rewritten) (table words next part : List ℕ) (n : ℕ) → Fine (state_of s) o → Leaves o next part (Some n) → table ≡ next → words ≡ take n part
    → Lands table words s.space s.waiting.items (landed (state_of s) o)
lands_left s None table words next part n f l e q = absurd (let n : ◌≡◌ {A = ℕ} 0 1 = (let k = l in cc) in omega arith)
lands_left s (Some r) table words next part n f l e q =
    let k = sheet_kept s in
    let count : n ≡ length (encode r.clauses) = (let z = l.0 in cc) in
    let u : table ≡ r.table = e ∙ l.1 in
    let size : length table ≡ length s.table.items = ap length u ∙ f.size in
    lands table words s.space s.waiting.items (landed (state_of s) (Some r)) (sound_landed (state_of s) r k.sound f) (ap (λ x. x - 1) size) refl u
    (q ∙ ap (λ x. take x part) count ∙ l.2) (λ _. refl) (k.marked ∙ sym size)

pub lands_replaced : (s : Sheet) (found : Bool) (next part : List ℕ) (n : ℕ) → Replaced s found next part (Some n) → (table words : List ℕ) → table ≡ next → words ≡ take n part
    → Lands table words s.space s.waiting.items (landed (state_of s) (over s found))
lands_replaced s found next part n w table words e q = lands_left s (over s found) table words next part n w.fine w.leaves e q

-- the counts that are answered then
answer_left : (s : State) (o : Option Rewritten) (next part : List ℕ) (n : ℕ) (p : Counts) → Fine s o → Leaves o next part (Some n)
    → p.fixed ≡ newly 1 s.table next → p.tied ≡ newly 2 s.table next → Settled p ≡ outcome s (landed s o)
answer_left s None next part n p f l a b = absurd (let n : ◌≡◌ {A = ℕ} 0 1 = (let k = l in cc) in omega arith)
answer_left s (Some r) next part n p f l a b =
    let e = l.1 in
    let counts : ◌≡◌ {A = Counts} (record { fixed = p.fixed; tied = p.tied }) (record { fixed = newly 1 s.table r.table; tied = newly 2 s.table r.table }) = cc in
    let whole = pending_whole r.clauses f.rest in
    cc

pub answer_replaced : (s : Sheet) (found : Bool) (next part : List ℕ) (n : ℕ) → Replaced s found next part (Some n) → (p : Counts)
    → p.fixed ≡ newly 1 s.table.items next → p.tied ≡ newly 2 s.table.items next → Settled p ≡ outcome (state_of s) (landed (state_of s) (over s found))
answer_replaced s found next part n w p a b = answer_left (state_of s) (over s found) next part n p w.fine w.leaves a b
