-- What `Sum` stands for: blocks that wait in its group count as if AES4 of them were in the total.
use Rattle.paper.specs.Strings.{Bytes, ◌⊕◌}
use Rattle.paper.specs.Figure6.{Key, k0}
use Rattle.strings.specs.Waiting.{added_up}
use Rattle.strings.specs.declared.Sum.{Sum}

-- what is summed, and what waits
abbrev pub so_far : Key → Sum → Bytes
so_far K s = s.total ⊕ added_up (k0 K) s.group s.waiting
