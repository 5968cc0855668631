-- What a reading gives. Assumes nothing.
use Rattle.std.proofs.Common.{◌≡◌, ℕ, ◌≤◌, cond, List, [], ◌∷◌, ◌++◌, length, Ok, Err, Result, sym, ap, ◌∙◌, subst, append-nil, le-leb}
use Rattle.std.specs.Result as results
use Rattle.faults.specs.declared.ReaderFault.TheVariants.{TextTooLong}
use Rattle.faults.specs.declared.Fault.TheVariants.{Reader}
use Rattle.dimacs.specs.declared.error.ReadError.{ReadError}
use Rattle.dimacs.specs.declared.error.ReadError.TheVariants.{Memory, Refused}
use Rattle.dimacs.specs.declared.formula.Formula.{Formula}
use Rattle.dimacs.specs.declared.reader.Reader as reader
use Rattle.dimacs.specs.Text.{Answer, Contents, fault, lines, plain, headed, text_says}
use Rattle.dimacs.specs.Progress.{means, ends, Faults, Halts}
use Rattle.dimacs.specs.Results.{contents, ReadAs, GivesBack}
use Rattle.dimacs.specs.Written.{Within, written}
use Rattle.dimacs.proofs.Within.{said_within}
use Rattle.dimacs.proofs.Written.{reads_back}

-- a text that was written from a list says it
said_back : (space : ℕ) (text : List ℕ) (c : Contents) → text_says space text ≡ Ok c → (n : ℕ) (cs : List (List ℕ)) → Within space n cs → text ≡ written n cs → c ≡ record { nets = n; clauses = cs }
said_back space text c a n cs w e = let b = sym a ∙ ap (text_says space) e ∙ reads_back space n cs w in cc

-- reading gives back what was written, since it gives what the text says
pub gives_back : (space : ℕ) (text : List ℕ) (r : Result Formula ReadError) → ReadAs space text r → (n : ℕ) (cs : List (List ℕ)) → Within space n cs → text ≡ written n cs → GivesBack n cs r
gives_back space text (Ok f) a n cs w e = said_back space text (contents f) a.0 n cs w e
gives_back space text (Err Memory) a n cs w e = tt
gives_back space text (Err (Refused l)) a n cs w e =
    let b = sym a ∙ ap (text_says space) e ∙ reads_back space n cs w in cc

module _ (space : ℕ) (text : List ℕ) (short : length text ≤ 60000) where
  says_is : text_says space text ≡ headed space (length (lines text)) (plain 1 (lines text))
  says_is = ap (λ b. cond b (headed space (length (lines text)) (plain 1 (lines text))) (fault 1 (Reader TextTooLong))) (le-leb _ _ short)

  pub read-fault : (e : ReadError) → Faults (text_says space text) e → ReadAs space text (Err e)
  read-fault Memory k = tt
  read-fault (Refused l) k = k

  -- a reader that has taken these lines
  module _ (r : reader.Reader) (taken : List (List ℕ)) (says : (room end : ℕ) (ls : List (List ℕ)) → headed room end (plain 1 (taken ++ ls)) ≡ means r room end ls) where
    pub halted : (l : List ℕ) (later : List (List ℕ)) (e : ReadError) → lines text ≡ taken ++ l ∷ later → Halts r l e → Faults (text_says space text) e
    halted l later e q h =
        subst (λ a. Faults a e) (sym (says_is ∙ ap (λ ls. headed space (length (lines text)) (plain 1 ls)) q ∙ says space (length (lines text)) (l ∷ later)))
        (h.faults space (length (lines text)) later)

    pub ended_is : taken ≡ lines text → r.line ≡ length taken → text_says space text ≡ ends r space
    ended_is q n =
        says_is ∙ ap (λ ls. headed space (length ls) (plain 1 ls)) (sym q) ∙ ap (λ k. headed space k (plain 1 taken)) (sym n)
        ∙ ap (λ ls. headed space r.line (plain 1 ls)) (sym (append-nil taken)) ∙ says space r.line []

  pub read_whole : (r : Result Formula ReadError) (a : Answer) → text_says space text ≡ a → results.IfOk r (λ f. a ≡ Ok (contents f)) → results.IfErr r (Faults a) → ReadAs space text r
  read_whole (Ok f) a e ok err = let q = e ∙ ok in (q, said_within space text _ q)
  read_whole (Err x) a e ok err = read-fault x (subst (λ z. Faults z x) (sym e) err)
