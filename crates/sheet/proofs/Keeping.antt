-- What holds of every sheet, and the spaces that hold one. Assumes nothing.
use Rattle.std.proofs.Common.{◌≡◌, ℕ, ◌-◌, ◌<◌, ◌≤◌, Bool, true, false, eqb, List, [], ◌∷◌, length, get_or, replicate, vec_items, Vec, sym, refl, ap, ◌∙◌, subst, ⊎_elim, arith}
use mathlib.Core.Path.{fun_ext}
use Rattle.std.specs.declared.alloc.Global.{Global}
use Rattle.std.proofs.lemmas.List.{get_or_past, get_or-replicate, length-replicate}
use Rattle.std.proofs.lemmas.Bool.{both_ways, cases_eq, cases_lt, cases_Bool, eq-eqb, ne_eqb, eqb-true, or_left, or_right, or_cases}
use Rattle.cnf.specs.Words.{read, encode, well, goods}
use Rattle.cnf.specs.Table.{rep, has, Own, Tabled}
use Rattle.cnf.proofs.Reading.{read_means, read-encode, well-encode, read-cons, read-nil, well-cons}
use Rattle.propagation.specs.Follow.{OwnEach}
use Rattle.sheet.specs.Calls.{contradicted}
use Rattle.sheet.proofs.Sounding.{sound_contradicted}
use Rattle.sheet.specs.declared.sheet.Sheet.{Sheet}
use Rattle.sheet.specs.Of.{state_of}
use Rattle.sheet.specs.State.{State, broken, contains, Sound, state_in}

-- every literal of the clauses is its own representative
own_clause : (t d : List ℕ) → ((c : ℕ) → has d c ≡ true → rep t c ≡ c) → Own t d
own_clause t [] h = tt
own_clause t (c ∷ d) h = (h c (or_left _ _ (eq-eqb c c refl)), own_clause t d (λ e k. h e (or_right (eqb c e) (has d e) k)))

pub own_each : (t : List ℕ) (cs : List (List ℕ)) → ((c : ℕ) → contains cs c ≡ true → rep t c ≡ c) → OwnEach t cs
own_each t [] h = tt
own_each t (d ∷ cs) h = (
  own_clause t d (λ c k. h c (or_left (has d c) (contains cs c) k)),
  own_each t cs (λ c k. h c (or_right (has d c) (contains cs c) k)),
)

-- the store in the spaces
pub record Kept (table words : List ℕ) (space : ℕ) (marks : List Bool) : Type 0 where
  pub sound : Sound (state_in table words space marks)
  pub formed : well (length table - 1) words ≡ true
  pub marked : length marks ≡ length table

-- one word is the empty clause
pub one_word : (n : ℕ) (ws : List ℕ) → length ws ≡ 1 → well n ws ≡ true → read ws ≡ [] ∷ []
one_word n [] l h = absurd (omega arith)
one_word n (w ∷ u ∷ ws) l h = absurd (omega arith)
one_word n (w ∷ []) l h =
    let k = (well-cons n w [] h).within in
    let z : w ≡ 0 = omega arith in
    ap (λ x. read (x ∷ [])) z ∙ read-cons 0 [] ∙ ap (λ cs. [] ∷ cs) read-nil

-- the words are the store's
pub used-words : (n : ℕ) (words : List ℕ) → well n words ≡ true → length (encode (read words)) ≡ length words
used-words n words h = ap length (read_means n words h).0

pub sheet_kept : (s : Sheet) → Kept (vec_items s.table) (vec_items s.words) s.space (vec_items s.waiting)
sheet_kept s = record { sound = sound; formed = formed; marked = omega (arith, s.waiting.ok.0, s.waiting_size, s.table.ok.0) }
  where
    formed : well (length (vec_items s.table) - 1) (vec_items s.words) ≡ true
    formed = ap (λ n. well (n - 1) (vec_items s.words)) (sym s.table.ok.0) ∙ s.formed

    first : (v : ℕ) → get_or (vec_items s.waiting) v false ≡ true → 1 ≤ v
    first v h = ⊎_elim (λ (e : v ≡ 0). absurd (both_ways _ s.constant (ap (λ i. get_or (vec_items s.waiting) i false) (sym e) ∙ h))) (λ (e : v ≡ 0 → ⊥). omega arith) (cases_eq v 0)

    last : (v : ℕ) → get_or (vec_items s.waiting) v false ≡ true → v ≤ length (vec_items s.table) - 1
    last v h =
        ⊎_elim (λ (l : v < length (vec_items s.waiting)). omega (arith, s.waiting.ok.0, s.waiting_size, s.table.ok.0))
        (λ (l : length (vec_items s.waiting) ≤ v). absurd (both_ways _ (get_or_past (vec_items s.waiting) v false l) h)) (cases_lt v (length (vec_items s.waiting)))

    sound : Sound (state_of s)
    sound = record {
      few = omega (arith, s.few, s.table.ok.0);
      size = omega (arith, s.some, s.table.ok.0);
      reduced = record {
        some = omega (arith, s.some, s.table.ok.0);
        tabled = s.tabled;
        good = (read_means _ (vec_items s.words) formed).1;
        own = own_each (vec_items s.table) (read (vec_items s.words)) s.own;
      };
      room = omega (arith, used-words _ (vec_items s.words) formed, s.room, s.words.ok.0);
      alone = λ b. one_word _ (vec_items s.words) (sym s.words.ok.0 ∙ s.alone b) formed;
      quiet = s.quiet;
      nets_wait = λ v h. (first v h, last v h);
    }

-- a sheet is contradictory where it has one word
pub broken-one : (s : Sheet) → eqb s.words.len 1 ≡ broken (state_of s).store
broken-one s =
    let k = sheet_kept s in
    ⊎_elim (λ (e : s.words.len ≡ 1). eq-eqb s.words.len 1 e ∙ sym (ap broken (one_word _ (vec_items s.words) (sym s.words.ok.0 ∙ e) k.formed)))
    (λ (e : s.words.len ≡ 1 → ⊥). ne_eqb s.words.len 1 e ∙ sym (⊎_elim (λ b. absurd (e (s.alone b))) (λ b. b) (cases_Bool (broken (state_of s).store)))) (cases_eq s.words.len 1)

-- the facts in the type of a sheet, in their order, from the spaces that hold it; l with a letter is a length, and c the capacity for words
abbrev pub Ghosts : List ℕ → ℕ → List ℕ → ℕ → ℕ → ℕ → List Bool → ℕ → ℕ → ℕ → ℕ → ℕ → Type 0
Ghosts table lt words lw c space marks lm ln ls lb lr = record {
  tabled : Tabled table;
  some : 1 ≤ lt;
  few : lt ≤ 2001;
  limit : space ≤ 30000;
  reserved : space ≤ c;
  room : lw ≤ space;
  formed : well (lt - 1) words ≡ true;
  own : (c : ℕ) → contains (read words) c ≡ true → rep table c ≡ c;
  alone : broken (read words) ≡ true → lw ≡ 1;
  quiet : broken (read words) ≡ true → (v : ℕ) → get_or marks v false ≡ false;
  constant : get_or marks 0 false ≡ false;
  waiting_size : lm ≡ lt;
  next_size : ln ≡ lt;
  news_size : ls ≡ lt;
  bits_size : lb ≡ lt;
  scratch_size : lr ≡ lt;
}

own_has : (t d : List ℕ) → Own t d → (c : ℕ) → has d c ≡ true → rep t c ≡ c
own_has t [] o c h = absurd (both_ways false refl h)
own_has t (e ∷ d) o c h = ⊎_elim (λ q. let z = eqb-true e c q in subst (λ x. rep t x ≡ x) z o.0) (λ q. own_has t d o.1 c q) (or_cases (eqb e c) (has d c) h)

pub own_contains : (t : List ℕ) (cs : List (List ℕ)) → OwnEach t cs → (c : ℕ) → contains cs c ≡ true → rep t c ≡ c
own_contains t [] o c h = absurd (both_ways false refl h)
own_contains t (d ∷ cs) o c h = ⊎_elim (λ q. own_has t d o.0 c q) (λ q. own_contains t cs o.1 c q) (or_cases (has d c) (contains cs c) h)

pub ghosts : (table words : Vec ℕ Global) (space : ℕ) (waiting : Vec Bool Global) (ln ls lb lr : ℕ) → Kept (vec_items table) (vec_items words) space (vec_items waiting)
    → space ≤ 30000 → space ≤ words.cap → ln ≡ table.len → ls ≡ table.len → lb ≡ table.len → lr ≡ table.len
    → Ghosts (vec_items table) table.len (vec_items words) words.len words.cap space (vec_items waiting) waiting.len ln ls lb lr
ghosts table words space waiting ln ls lb lr w limit reserved next news bits scratch = record {
  tabled = w.sound.reduced.tabled;
  some = omega (arith, w.sound.size, table.ok.0);
  few = omega (arith, w.sound.few, w.sound.size, table.ok.0);
  limit = limit;
  reserved = reserved;
  room = omega (arith, used, w.sound.room);
  formed = ap (λ n. well (n - 1) (vec_items words)) table.ok.0 ∙ w.formed;
  own = own_contains (vec_items table) (read (vec_items words)) w.sound.reduced.own;
  alone = λ b. sym used ∙ ap (λ cs. length (encode cs)) (w.sound.alone b);
  quiet = w.sound.quiet;
  constant = ⊎_elim (λ h. absurd (let k = (w.sound.nets_wait 0 h).0 in omega arith)) (λ h. h) (cases_Bool (get_or (vec_items waiting) 0 false));
  waiting_size = waiting.ok.0 ∙ w.marked ∙ sym table.ok.0;
  next_size = next;
  news_size = news;
  bits_size = bits;
  scratch_size = scratch;
}
  where
    used : length (encode (read (vec_items words))) ≡ words.len
    used = used-words (length (vec_items table) - 1) (vec_items words) w.formed ∙ sym words.ok.0

-- a sheet that the spaces hold
pub record Lands (table words : List ℕ) (space : ℕ) (marks : List Bool) (s : State) : Type 0 where
  pub holds : Kept table words space marks
  pub is : state_in table words space marks ≡ s

same_state : (s u : State) → s.nets ≡ u.nets → s.space ≡ u.space → s.table ≡ u.table → s.store ≡ u.store → s.waiting ≡ u.waiting → s ≡ u
same_state s u a b d e f =
    let made : ◌≡◌ {A = State} (record { nets = s.nets; space = s.space; table = s.table; store = s.store; waiting = s.waiting }) (record { nets = u.nets; space = u.space; table = u.table; store = u.store; waiting = u.waiting }) = cc in
    made

-- spaces that hold a state, by its parts
pub lands : (table words : List ℕ) (space : ℕ) (marks : List Bool) (s : State) → Sound s → length table - 1 ≡ s.nets → space ≡ s.space → table ≡ s.table
    → words ≡ encode s.store → ((v : ℕ) → get_or marks v false ≡ s.waiting v) → length marks ≡ length table → Lands table words space marks s
lands table words space marks s w n p t e g m = record {
  holds = record {
    sound = subst Sound (sym same) w;
    formed = ap (well (length table - 1)) e ∙ ap (λ k. well k (encode s.store)) n ∙ well-encode s.nets s.store (ap (λ k. goods k s.store) nets ∙ w.reduced.good);
    marked = m;
  };
  is = same;
}
  where
    nets : s.nets ≡ length s.table - 1
    nets = omega (arith, w.size)

    store : read words ≡ s.store
    store = ap read e ∙ read-encode s.store

    same : state_in table words space marks ≡ s
    same = same_state (state_in table words space marks) s n p t store (fun_ext g)

-- marks that are all taken away
pub cleared : (none : List Bool) (n : ℕ) → none ≡ replicate n false → (length none ≡ n) × ((v : ℕ) → get_or none v false ≡ false)
cleared none n e = (
  ap length e ∙ length-replicate n false,
  λ v. ap (λ xs. get_or xs v false) e ∙ ⊎_elim (λ (h : v < n). get_or-replicate n v false false h) (λ (h : n ≤ v). get_or_past (replicate n false) v false (omega (arith, length-replicate {A = Bool} n false))) (cases_lt v n),
)

-- the empty clause alone, in the space of a sheet
pub lands_contradicted : (s : Sheet) (words : List ℕ) (none : List Bool) → words ≡ 0 ∷ [] → 1 ≤ s.space → none ≡ replicate s.waiting.len false
    → Lands s.table.items words s.space none (contradicted (state_of s))
lands_contradicted s words none e h m =
    let k = sheet_kept s in
    let z = cleared none s.waiting.len m in
    lands s.table.items words s.space none (contradicted (state_of s)) (sound_contradicted (state_of s) k.sound h) refl refl refl e z.1 (z.0 ∙ s.waiting.ok.0 ∙ k.marked)
