-- `msf::put_mesh` meets its contract: the answer decides the listing. Assumes nothing.
use Prim.Native.Nat.{◌*◌}
use mathlib.Core.Path.{◌≡◌, refl}
use lib.ListN.{take}
use Rattle.msf.specs.Inner.Kinds.{stride_of}
use Rattle.msf.proofs.Listings.{refused_listing, mesh_listing}
use Rattle.msf.proofs.put_mesh.Goals as goal

pub returns-in-Err : goal.returns-in-Err
returns-in-Err c =
    let h = c.args.header.now in
    rw (← (refused_listing h c.in-Err.refusal c.in-Err.ensures.answered)) c.put_refused.ensures

pub returns-in-Ok : goal.returns-in-Ok
returns-in-Ok c =
    let h = c.args.header.now in
    let count = c.in-Ok.count in
    let numbers = c.read_mesh.new.numbers in
    let e : take (count * c.stride.result) numbers ≡ take (count * stride_of h.kind h.components) numbers = rw c.stride.ensures refl in
    rw (← (mesh_listing h c.in-Ok.ensures.answered (take (count * c.stride.result) numbers) e)) c.put_listing.ensures
