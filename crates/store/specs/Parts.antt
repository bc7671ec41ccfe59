-- A state in parts: its numbers by value, and its large arrays, which the caller lends.
use Rattle.std.specs.Prelude.{false, List, ℕ, Result, Ok, Err}
use Rattle.chip.specs.Geometry.{geometry_of}
use Rattle.plan.specs.declared.make.Basis.{Basis}
use Rattle.store.specs.declared.answer.Refusal.{Refusal}
use Rattle.store.specs.declared.state.Numbers.{Numbers}
use Rattle.store.specs.declared.state.State.{State}
use Rattle.store.specs.declared.state.Updated.{Updated}
use Rattle.store.specs.declared.state.UpdatedParts.{UpdatedParts}
use Rattle.store.specs.declared.state.Wrote.{Wrote}
use Rattle.store.specs.declared.state.WroteParts.{WroteParts}

-- the state of these numbers, the buffer, the lengths and slots of the node table, and the erases of each block
abbrev pub joined : Numbers → List ℕ → List ℕ → List ℕ → List ℕ → State
joined n buffer lens slots erases =
    record {
      on = n.on;
      nand = n.nand;
      blocks = n.blocks;
      commit = n.commit;
      pending = n.pending;
      free = n.free;
      count = n.count;
      buffer = buffer;
      lens = lens;
      slots = slots;
      erases = erases;
    }

-- the numbers of a state
abbrev pub numbers_of : State → Numbers
numbers_of s = record { on = s.on; nand = s.nand; blocks = s.blocks; commit = s.commit; pending = s.pending; free = s.free; count = s.count }

-- what the plan of a commit is made from
abbrev pub basis_of : Numbers → Basis
basis_of n = record { geometry = geometry_of n.nand; count = n.count; blocks = n.blocks; commit = n.commit }

-- the same numbers, off
abbrev pub numbers_off : Numbers → Numbers
numbers_off n = record { on = false; nand = n.nand; blocks = n.blocks; commit = n.commit; pending = n.pending; free = n.free; count = n.count }

-- the same numbers with these free numbers: look up, forecast, commit and block report do not read those
abbrev pub with_free : Numbers → List ℕ → Numbers
with_free n free = record { on = n.on; nand = n.nand; blocks = n.blocks; commit = n.commit; pending = n.pending; free = free; count = n.count }

-- what an update of these numbers gives back: those that it leaves, or the same with its refusal
abbrev pub parts_of : Numbers → Result Numbers Refusal → UpdatedParts
parts_of n (Ok m) = record { answer = Ok tt; numbers = m }
parts_of n (Err e) = record { answer = Err e; numbers = n }

-- what an insert or a delete gives back, with the arrays that it leaves
abbrev pub updated_with : UpdatedParts → List ℕ → List ℕ → List ℕ → List ℕ → Updated
updated_with r buffer lens slots erases = record { answer = r.answer; state = joined r.numbers buffer lens slots erases }

-- what a format, a mount or a commit gives back, with the arrays that it leaves
abbrev pub wrote_with : WroteParts → List ℕ → List ℕ → List ℕ → List ℕ → Wrote
wrote_with r buffer lens slots erases = record { answer = r.answer; ops = r.ops; state = joined r.numbers buffer lens slots erases }

-- the same with these free numbers
abbrev pub wrote_free : WroteParts → List ℕ → WroteParts
wrote_free r free = record { answer = r.answer; ops = r.ops; numbers = with_free r.numbers free }
