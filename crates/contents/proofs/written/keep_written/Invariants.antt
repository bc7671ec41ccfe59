use Prim.Native.Nat.{ℕ}
use Rattle.contents.specs.ContentsCode.{own_in}
use Rattle.contents.proofs.WrittenLaws.{Writing}
use Rattle.contents.proofs.written.keep_written.Given as goal

abbrev pub invariant-loop-n : goal.invariant-loop-n
invariant-loop-n l =
    Writing l.limit (λ (m : ℕ). own_in l.limit m l.count l.buffer) l.targets l.forms l.wholes l.parts l.initial.units l.n l.sizes l.units
