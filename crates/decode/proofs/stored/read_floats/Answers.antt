-- `decode::stored::read_floats` meets its contract: so many floats are there, and room for them. Assumes nothing.
use Rattle.std.proofs.Common.{ℕ, sym, ◌∙◌, ap, arith}
use Rattle.lists.specs.Writing.{put}
use Rattle.decode.specs.Stored.{floats_at}
use Rattle.decode.specs.Inner.Reading.{with_floats}
use Rattle.decode.proofs.BigEndian.{floats_put}
use Rattle.decode.proofs.stored.read_floats.Goals as goal

pub returns : goal.returns
unfolding with_floats
returns c =
    let a = c.args in
    let k = c.min.result in
    c.read_floats_at.ensures
    ∙ sym (floats_put a.bytes.now 0 k a.out.now (omega (arith, c.min.ensures)) (omega (arith, c.min.ensures)))
    ∙ ap (λ (j : ℕ). put a.out.now 0 (floats_at a.bytes.now 0 j)) c.min.ensures
