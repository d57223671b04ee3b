-- The running mask stands for the first key of a list: line 406.
use Rattle.std.proofs.Common.{◌≡◌, ap, arith, drop, sym, ◌∙◌}
use Rattle.paper.specs.Figure6.{k1, k2}
use Rattle.laws.proofs.BlockFunction.{E_406_1, E_406_2}
use Rattle.block.proofs.Arrays.{array_bytes}
use Rattle.pairs.specs.Meaning.{first}
use Rattle.pairs.specs.declared.Row.TheVariants.{Is}
use Rattle.pairs.proofs.Pairs.{counted_row, in_row}
use Rattle.tbc.specs.Meaning.{base}
use Rattle.tbc.proofs.Masks.{under_running}
use Rattle.tbc.proofs.e_running.Goals as goal
use Rattle.tbc.proofs.e_running.Goals.{in_default-via-in-Is+in_default, in_default-via-in_default}

pub returns-in-Is-eq1 : goal.returns-in-Is-eq1
returns-in-Is-eq1 c =
    let a = c.args in
    let K = base a.k in
    let run = c.requires.0 in
    let row : a.p.row ≡ Is 1 = c.in-Is-eq1.is ∙ ap Is (sym c.in-Is-eq1.field-0-is ∙ c.in-Is-eq1.field-0-test) in
    under_running a.k a.m.now c.requires.2 (drop 1 (k1 K)) c.keys1.result c.running_mask-mask.result (array_bytes 16 _ _ c.well_formed.1.1.1.1.0)
    c.keys1.ensures c.aes.ensures a.p a.power run c.running_mask-mask.ensures
    ∙ sym (in_row K a.x a.p 1 row ∙ E_406_1 K a.x a.p.number)

pub returns-in_default : goal.returns-in_default
returns-in_default c =
    let a = c.args in
    let K = base a.k in
    let run = c.requires.0 in
    let second : first a.p.row ≡ 2 = elim c.in_default.branch [
      | in_default-via-in-Is+in_default w ↦
          let other : first a.p.row ≡ 1 → ⊥ = λ e. w.in_default.field-0-test.1 (w.in_default.field-0-is ∙ sym (ap first w.in_default.is) ∙ e) in
          omega (arith, run.counted, c.requires.1, other)
      | in_default-via-in_default w ↦ omega (arith, run.counted, ap first w.in_default.is)
    ] in
    let row : a.p.row ≡ Is 2 = counted_row a.p.row run.counted ∙ ap Is second in
    under_running a.k a.m.now c.requires.2 (drop 1 (k2 K)) c.keys2.result c.running_mask-mask.result (array_bytes 16 _ _ c.well_formed.1.1.1.1.0)
    c.keys2.ensures c.aes-in_default.ensures a.p a.power run c.running_mask-mask.ensures
    ∙ sym (in_row K a.x a.p 2 row ∙ E_406_2 K a.x a.p.number)
