-- The bytes that write numbers, and the numbers that they write. Assumes nothing.
use Rattle.std.proofs.Common.{◌≡◌, ℕ, ◌+◌, ◌-◌, ◌*◌, ◌/◌, ◌%◌, ◌^◌, ◌<◌, ◌≤◌, Bool, true, false, cond, leb, ◌⊎◌, List, [], ◌∷◌, ◌++◌, length, get_or, Some, None, decimal, sym, refl, ap, ◌∙◌, subst, inl, inr, append_assoc, append-nil, arith}
use Rattle.std.specs.List.{AllByRecursion as All}
use Rattle.std.proofs.lemmas.Fmt.{decimal_by_steps, decimal_digit, decimal_nonempty, length-decimal-le, first_decimal}
use Rattle.std.proofs.ByRecursion.{All-push, All-weaker}
use Rattle.std.proofs.lemmas.Bool.{le-leb, eq-eqb, ne_eqb, and_from, or_from, cases_eq}
use Rattle.dimacs.specs.Numbers.{is_digit, is_feed, is_space, is_blank, digits, short, numeral, positive, negative, number}
use Rattle.dimacs.specs.Written.{spelled}
use Rattle.dimacs.proofs.Pieces.{Free}

abbrev pub Digit : ℕ → Type 0
Digit b = (48 ≤ b) × (b ≤ 57)

-- a digit or a minus, as every byte of a number is
abbrev pub Inked : ℕ → Type 0
Inked b = (45 ≤ b) × (b ≤ 57)

pub inked_no_feed : (b : ℕ) → Inked b → is_feed b ≡ false
inked_no_feed b h = ne_eqb b 10 (λ e. omega arith)

pub inked_no_space : (b : ℕ) → Inked b → is_space b ≡ false
inked_no_space b h = ne_eqb b 32 (λ e. omega arith)

pub inked_no_blank : (b : ℕ) → Inked b → is_blank b ≡ false
inked_no_blank b h = or_from _ _ (ne_eqb b 32 (λ e. omega arith)) (ne_eqb b 9 (λ e. omega arith))

pub digit_is : (d : ℕ) → d < 10 → is_digit (48 + d) ≡ true
digit_is d h = and_from _ _ (le-leb 48 (48 + d) (omega arith)) (le-leb (48 + d) 57 (omega arith))

-- one digit more
pub digits_more : (v d : ℕ) (bs : List ℕ) → d < 10 → digits v ((48 + d) ∷ bs) ≡ digits (v * 10 + d) bs
digits_more v d bs h =
    ap (λ t. cond t (digits (v * 10 + (48 + d - 48)) bs) None) (digit_is d h)
    ∙ ap (λ k. digits (v * 10 + k) bs) (let e : 48 + d - 48 ≡ d = omega arith in e)

-- what is written of v is read as v, whatever follows
pub digits_decimal : (v : ℕ) → v < 2 ^ 64 → (bs : List ℕ) → digits 0 (decimal v ++ bs) ≡ digits v bs
digits_decimal = decimal_by_steps (λ n ds. (bs : List ℕ) → digits 0 (ds ++ bs) ≡ digits n bs) one more
  where
    one : (n : ℕ) → n < 10 → (bs : List ℕ) → digits 0 ((48 + n) ∷ bs) ≡ digits n bs
    one n h bs = digits_more 0 n bs h ∙ ap (λ k. digits k bs) (let e : 0 * 10 + n ≡ n = omega arith in e)

    more : (n : ℕ) (ds : List ℕ) → 10 ≤ n → ((bs : List ℕ) → digits 0 (ds ++ bs) ≡ digits (n / 10) bs) → (bs : List ℕ) → digits 0 ((ds ++ (48 + n % 10) ∷ []) ++ bs) ≡ digits n bs
    more n ds h ih bs =
        ap (digits 0) (append_assoc ds ((48 + n % 10) ∷ []) bs) ∙ ih ((48 + n % 10) ∷ bs) ∙ digits_more (n / 10) (n % 10) bs (omega arith)
        ∙ ap (λ k. digits k bs) (let e : n / 10 * 10 + n % 10 ≡ n = omega arith in e)

-- each byte is a digit
pub decimal_digits : (v : ℕ) → v < 2 ^ 64 → All Digit (decimal v)
decimal_digits = decimal_by_steps (λ n ds. All Digit ds) (λ n h. ((omega arith, omega arith), tt)) (λ n ds h ih. All-push Digit ds (48 + n % 10) ih (omega arith, omega arith))

pub decimal_inked : (v : ℕ) → v < 2 ^ 64 → All Inked (decimal v)
decimal_inked v h = All-weaker Digit Inked (λ b k. (omega arith, omega arith)) (decimal v) (decimal_digits v h)

pub short_is : (t : List ℕ) → 0 < length t → length t ≤ 5 → (get_or t 0 0 ≡ 48 → length t ≡ 1) → short t ≡ true
short_is [] h l f = absurd (omega arith)
short_is (b ∷ []) h l f = refl
short_is (b ∷ c ∷ bs) h l f =
    ap (λ x. cond x false (leb (length bs) 3)) (ne_eqb b 48 (λ e. let k = f e in omega arith)) ∙ le-leb (length bs) 3 (omega arith)

short_decimal : (v : ℕ) → v < 100000 → short (decimal v) ≡ true
short_decimal v h =
    short_is (decimal v) (decimal_nonempty v (omega arith)) (length-decimal-le 5 v (omega arith) (omega arith) (omega arith)) (λ e. only e (cases_eq v 0))
  where
    only : get_or (decimal v) 0 0 ≡ 48 → (v ≡ 0) ⊎ (v ≡ 0 → ⊥) → length (decimal v) ≡ 1
    only e (inl z) = ap length (decimal_digit v (omega arith))
    only e (inr p) = absurd (omega (arith, first_decimal v (omega arith) (omega arith)))

-- a number of at most five digits is read back
pub numeral_decimal : (v : ℕ) → v < 100000 → numeral (decimal v) ≡ Some v
numeral_decimal v h =
    ap (λ t. cond t (digits 0 (decimal v)) None) (short_decimal v h)
    ∙ ap (digits 0) (sym (append-nil (decimal v))) ∙ digits_decimal v (omega arith) []

-- digits with no minus
pub number_digits : (t : List ℕ) → All Digit t → number t ≡ positive (numeral t)
number_digits [] h = refl
number_digits (b ∷ bs) h =
    let d = h.0 in
    ap (λ x. cond x (negative (numeral bs)) (positive (numeral (b ∷ bs)))) (ne_eqb b 45 (λ e. omega arith))

pub spelled_even : (c : ℕ) → c % 2 ≡ 0 → spelled c ≡ decimal (c / 2)
spelled_even c e = ap (λ x. cond x (decimal (c / 2)) (45 ∷ decimal (c / 2))) (eq-eqb (c % 2) 0 e)

pub spelled_odd : (c : ℕ) → (c % 2 ≡ 0 → ⊥) → spelled c ≡ 45 ∷ decimal (c / 2)
spelled_odd c e = ap (λ x. cond x (decimal (c / 2)) (45 ∷ decimal (c / 2))) (ne_eqb (c % 2) 0 e)

-- what holds of both spellings holds of a literal's
spelled_either : (P : List ℕ → Type 0) (c : ℕ) → (c % 2 ≡ 0 → P (decimal (c / 2))) → ((c % 2 ≡ 0 → ⊥) → P (45 ∷ decimal (c / 2))) → P (spelled c)
spelled_either P c f g = go (cases_eq (c % 2) 0)
  where
    go : (c % 2 ≡ 0) ⊎ (c % 2 ≡ 0 → ⊥) → P (spelled c)
    go (inl e) = subst P (sym (spelled_even c e)) (f e)
    go (inr e) = subst P (sym (spelled_odd c e)) (g e)

-- a literal is read back
pub number_spelled : (c : ℕ) → 2 ≤ c → c / 2 < 100000 → number (spelled c) ≡ Some c
number_spelled c l h = spelled_either (λ t. number t ≡ Some c) c even odd
  where
    even : c % 2 ≡ 0 → number (decimal (c / 2)) ≡ Some c
    even e =
        number_digits _ (decimal_digits (c / 2) (omega arith)) ∙ ap positive (numeral_decimal (c / 2) h)
        ∙ ap Some (let q : 2 * (c / 2) ≡ c = omega arith in q)

    odd : (c % 2 ≡ 0 → ⊥) → number (45 ∷ decimal (c / 2)) ≡ Some c
    odd e =
        ap negative (numeral_decimal (c / 2) h)
        ∙ ap (λ x. cond x None (Some (2 * (c / 2) + 1))) (ne_eqb (c / 2) 0 (λ z. omega arith))
        ∙ ap Some (let q : 2 * (c / 2) + 1 ≡ c = omega arith in q)

pub spelled_inked : (c : ℕ) → c / 2 < 2 ^ 64 → All Inked (spelled c)
spelled_inked c h = spelled_either (All Inked) c (λ e. decimal_inked (c / 2) h) (λ e. ((omega arith, omega arith), decimal_inked (c / 2) h))

pub spelled-some : (c : ℕ) → c / 2 < 2 ^ 64 → 0 < length (spelled c)
spelled-some c h = spelled_either (λ t. 0 < length t) c (λ e. decimal_nonempty (c / 2) h) (λ e. omega arith)

-- what parts numbers stands in none
module _ (q : ℕ → Bool) (apart : (b : ℕ) → Inked b → q b ≡ false) where
  pub decimal_free : (v : ℕ) → v < 2 ^ 64 → Free q (decimal v)
  decimal_free v h = All-weaker Inked (λ b. q b ≡ false) apart (decimal v) (decimal_inked v h)

  pub spelled_free : (c : ℕ) → c / 2 < 2 ^ 64 → Free q (spelled c)
  spelled_free c h = All-weaker Inked (λ b. q b ≡ false) apart (spelled c) (spelled_inked c h)
