-- `rows::Decoded::read_components` meets its contract: after each turn two components more stand in `out` from `at`. Of an odd count the last is left.
-- Assumes nothing.
use Rattle.std.proofs.Common.{arith, ℕ, ◌+◌, ◌*◌}
use Rattle.lists.proofs.Writing.{written_store, written_store_two}
use Rattle.colour.specs.Inner.Places.{bit_numbers, components_at}
use Rattle.rows.specs.Inner.Sources.{held_ranges}
use Rattle.rows.proofs.Loops.{loop_begins, loop_ends}
use Rattle.rows.proofs.Decoded.read_components.Goals as goal
use Rattle.rows.proofs.Decoded.read_components.Goals.{then-j-n, else-j-n}

pub loop-j-init : goal.loop-j-init
loop-j-init c = record { inside = omega arith; written = loop_begins _ (omega arith) (omega arith) }

pub loop-j-preserved : goal.loop-j-preserved
loop-j-preserved c =
    let a = c.args in
    let j = c.loop-j.j in
    let comp = a.self.input.now.layout.comp in
    record {
      inside = omega arith;
      written =
          written_store_two j (λ (k : ℕ). bit_numbers a.bytes.now (held_ranges a.self.ranges.now) comp (2 + k) (a.from + k * comp)) c.loop-j.invariant.written
          (omega arith) c.read_component-a.ensures c.read_component-b.ensures;
    }

pub returns-clause-written : goal.returns-clause-written
unfolding components_at
returns-clause-written c =
    let a = c.args in
    let j = c.loop-j.j in
    let comp = a.self.input.now.layout.comp in
    elim c.if-j-n.branch [
      | then-j-n w ↦
          let all =
          written_store j (λ (k : ℕ). bit_numbers a.bytes.now (held_ranges a.self.ranges.now) comp (2 + k) (a.from + k * comp)) {v = w.read_component.result}
          c.loop-j.invariant.written (omega arith) w.read_component.ensures in
          rw w.out-is (loop_ends _ all (omega arith) (omega arith))
      | else-j-n w ↦ rw w.out-is (loop_ends _ c.loop-j.invariant.written (omega arith) (omega arith))
    ]
