use Rattle.std.proofs.Common.{true, false, refl, sym, ◌∙◌, ap, Ok, ℕ, lt-ltb, le-ltb, arith}
use Rattle.builder.proofs.Items.{items_fit}
use Rattle.builder.proofs.Answers.{settles}
use Rattle.builder.proofs.settled.Goals as goal

pub returns-then-too_long : goal.returns-then-too_long
returns-then-too_long c =
    let a = c.args in
    settles a.nonce.now a.host.now a.collector.now a.locale.now a.bytes true _ (sym c.too_long.ensures ∙ c.if-too_long.true) refl

pub log_length-size-requires : goal.log_length-size-requires
log_length-size-requires c =
    let a = c.args in
    items_fit a.nonce.now a.host.now a.collector.now a.locale.now (sym c.too_long.ensures ∙ c.if-too_long.false)

pub returns-then-bytes-size : goal.returns-then-bytes-size
returns-then-bytes-size c =
    let a = c.args in
    settles a.nonce.now a.host.now a.collector.now a.locale.now a.bytes false true (sym c.too_long.ensures ∙ c.if-too_long.false)
    (lt-ltb _ _ (omega (arith, c.log_length-size.ensures)))

pub returns : goal.returns
returns c =
    let a = c.args in
    ap (λ (n : ℕ). Ok n) c.log_length-size.ensures
    ∙ settles a.nonce.now a.host.now a.collector.now a.locale.now a.bytes false false (sym c.too_long.ensures ∙ c.if-too_long.false)
    (le-ltb _ _ (omega (arith, c.log_length-size.ensures)))
