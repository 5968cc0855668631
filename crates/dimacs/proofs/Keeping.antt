-- The clauses that are kept, one code at a time. Assumes nothing.
use Rattle.std.proofs.Common.{◌≡◌, ℕ, ◌≤◌, true, List, [], ◌∷◌, ◌++◌, length, sym, refl, ap, ◌∙◌, append_assoc, append-nil, arith, length-append}
use Rattle.std.proofs.lemmas.Bool.{and_parts, and_from}
use Rattle.cnf.specs.Words.{encode, good, goods, read, well}
use Rattle.cnf.proofs.Reading.{read-encode, read_means, well-encode}

pub encode-append : (cs ds : List (List ℕ)) → encode (cs ++ ds) ≡ encode cs ++ encode ds
encode-append [] ds = refl
encode-append (c ∷ cs) ds =
    ap (λ x. length c ∷ (c ++ x)) (encode-append cs ds) ∙ ap (λ x. length c ∷ x) (sym (append_assoc c (encode cs) (encode ds)))

-- a list has at least one word for each clause
encode-length : (cs : List (List ℕ)) → length cs ≤ length (encode cs)
encode-length [] = omega arith
encode-length (c ∷ cs) = omega (arith, encode-length cs, length-append c (encode cs))

pub words-length : (n : ℕ) (ws : List ℕ) → well n ws ≡ true → length (encode (read ws)) ≡ length ws
words-length n ws f = ap length (read_means n ws f).0

pub read-length : (n : ℕ) (ws : List ℕ) → well n ws ≡ true → length (read ws) ≤ length ws
read-length n ws f = omega (arith, words-length n ws f, encode-length (read ws))

-- the words of a clause behind the words of a list
words_push : (n : ℕ) (ws c vs : List ℕ) → well n ws ≡ true → vs ≡ (ws ++ length c ∷ []) ++ c → vs ≡ encode (read ws ++ c ∷ [])
words_push n ws c vs f v =
    v ∙ append_assoc ws (length c ∷ []) c ∙ ap (λ x. x ++ length c ∷ c) (sym (read_means n ws f).0) ∙ ap (λ x. encode (read ws) ++ length c ∷ x) (sym (append-nil c))
    ∙ sym (encode-append (read ws) (c ∷ []))

pub read_push : (n : ℕ) (ws c vs : List ℕ) → well n ws ≡ true → vs ≡ (ws ++ length c ∷ []) ++ c → read vs ≡ read ws ++ c ∷ []
read_push n ws c vs f v = ap read (words_push n ws c vs f v) ∙ read-encode (read ws ++ c ∷ [])

goods_more : (n : ℕ) (cs : List (List ℕ)) (c : List ℕ) → goods n cs ≡ true → good n c ≡ true → goods n (cs ++ c ∷ []) ≡ true
goods_more n [] c h g = and_from _ _ g refl
goods_more n (d ∷ cs) c h g = let p = and_parts (good n d) (goods n cs) h in and_from _ _ p.0 (goods_more n cs c p.1 g)

pub well_push : (n : ℕ) (ws c vs : List ℕ) → well n ws ≡ true → good n c ≡ true → vs ≡ (ws ++ length c ∷ []) ++ c → well n vs ≡ true
well_push n ws c vs f g v = ap (well n) (words_push n ws c vs f v) ∙ well-encode n (read ws ++ c ∷ []) (goods_more n (read ws) c (read_means n ws f).1 g)

-- a count is pushed, and then the codes
pub pushed : (ws rs us vs c s : List ℕ) (n : ℕ) → rs ≡ ws → us ≡ rs ++ n ∷ [] → vs ≡ us ++ s → s ≡ c → n ≡ length c → vs ≡ (ws ++ length c ∷ []) ++ c
pushed ws rs us vs c s n r a b d e = cc
