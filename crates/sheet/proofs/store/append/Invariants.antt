use Rattle.std.proofs.Common.{◌≡◌, ◌+◌, ◌∷◌, ◌++◌, length, take, vec_items, vec_len, vec_capacity}
use Rattle.sheet.proofs.store.append.Given as goal

abbrev pub invariant-loop-code : goal.invariant-loop-code
invariant-loop-code l = record {
  words : vec_items l.words ≡ vec_items l.fn.words ++ length l.body ∷ take l.code-index l.body;
  used : vec_len l.words ≡ vec_len l.fn.words + 1 + l.code-index;
  space : vec_capacity l.words ≡ vec_capacity l.fn.words;
}
