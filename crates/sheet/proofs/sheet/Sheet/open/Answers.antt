use Rattle.std.proofs.Common.{◌≡◌, ℕ, ◌≤◌, min, List, [], sym, ap, ◌∙◌, subst}
use Rattle.sheet.specs.declared.sheet.Sheet.{Sheet}
use Rattle.sheet.specs.State.{State}
use Rattle.sheet.specs.Of.{state_of}
use Rattle.sheet.specs.Calls.{opened}
use Rattle.sheet.specs.Laws.{Fits}
use Rattle.sheet.proofs.Keeping.{Lands, sheet_kept}
use Rattle.sheet.proofs.Opening.{lands_opened, fits-opened}
use Rattle.sheet.proofs.sheet.Sheet.open.Goals as goal

-- an opened sheet, in another store space
moved : (s : Sheet) (words : List ℕ) (space n : ℕ) → n ≤ 2000 → state_of s ≡ opened n 0 → words ≡ [] → Lands s.table.items words space s.waiting.items (opened n space)
moved s words space n h e w = lands_opened s.table.items words space s.waiting.items n h (ap (λ (x : State). x.table) e) w (sheet_kept s).marked (λ v. ap (λ (x : State). x.waiting v) e)

pub returns-in-Ok : goal.returns-in-Ok
returns-in-Ok c =
    let h = c.in-Ok.ensures in
    let e = (moved c.in-Ok.sheet _ c.min.result c.args.nets h.few h.opens c.clear.ensures.items).is ∙ ap (opened c.args.nets) (c.min.ensures ∙ ap (λ n. min n 30000) c.len.ensures) in
    record { few = h.few; opens = e; law = subst (Fits []) (sym e) (fits-opened c.args.nets (min c.args.space.len 30000)); refuses = tt; given_back = tt }
