-- `sixteen::sub_bytes`: the first l row slots are done; within a turn, the first p words of the slot are stored.
use Rattle.std.proofs.Common.{◌≡◌, ℕ, ◌<◌, length}
use Rattle.sixteen.proofs.Stores.{Stored}
use Rattle.sixteen.proofs.Steps.{Substituted}
use Rattle.sixteen.proofs.sub_bytes.Given as goal

abbrev pub invariant-loop-l : goal.invariant-loop-l
invariant-loop-l l = (length l.r ≡ 32) × ((j : ℕ) → j < l.l → Substituted l.q l.r j)

abbrev pub invariant-loop-p : goal.invariant-loop-p
invariant-loop-p l = Stored l.initial.r l.b l.l l.r l.p
