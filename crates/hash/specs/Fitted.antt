-- A block put at the front of a buffer that may be shorter.
use Rattle.std.specs.Prelude.{◌++◌, min, length, take, drop}
use Rattle.paper.specs.Strings.{Bytes}

-- as many bytes of y as s has, and then the rest of s
unfoldable pub fitted : Bytes → Bytes → Bytes
fitted s y = take (min (length s) 16) y ++ drop (min (length s) 16) s
