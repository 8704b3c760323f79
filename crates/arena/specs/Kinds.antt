-- To believe: how many entries a list has; of two or more it is an array, of one other than `$` a singleton, else context 0.
use Rattle.std.specs.Prelude.{ℕ, suc}
use Rattle.arena.specs.Store.{Node, end, dollar, push}

unfoldable pub size : Node → ℕ
size end = 0
size dollar = 1
size (push r p n) = suc (size n)
