-- `Stream::find_record` meets its contract: a case for each `return`. Assumes nothing.
use Rattle.std.proofs.Common.{sym, ◌∙◌, arith}
use Rattle.bits.proofs.Answers.{found, ended}
use Rattle.records.proofs.Finding.{no_first_number, mesh_ends, record_cut, record_stands}
use Rattle.records.proofs.stream.Stream.find_record.Goals as goal

pub returns-in_default : goal.returns-in_default
returns-in_default c =
    let a = c.args in
    let m = a.self.mesh in
    no_first_number m a.self.bytes.now a.started a.at.0 c.requires
    (ended _ _ _ m.first_some m.first_few (omega (arith, a.self.short)) (sym c.in_default.is ∙ c.read.ensures))

pub returns-in_err-rest : goal.returns-in_err-rest
returns-in_err-rest c =
    let a = c.args in
    let m = a.self.mesh in
    let f = found _ _ _ a.self.mesh.first_some c.in-Some.first _ (sym c.in-Some.is ∙ c.read.ensures) in
    rw c.from_residual.ensures
    (mesh_ends m.kind m.first m.coord m.comp m.n a.self.bytes.now a.started a.at.0 c.requires c.in-Some.first f.value (sym c.in_err-rest.ensures))

pub returns-then-end-self : goal.returns-then-end-self
returns-then-end-self c =
    let a = c.args in
    let f = found _ _ _ a.self.mesh.first_some c.in-Some.first _ (sym c.in-Some.is ∙ c.read.ensures) in
    let r = c.in_ok-rest.ensures in
    record_cut a.self.mesh a.self.bytes.now a.started a.at.0 c.requires c.in-Some.first f.value r (omega (arith, c.record_size.ensures.value))

pub returns : goal.returns
returns c =
    let a = c.args in
    let f = found _ _ _ a.self.mesh.first_some c.in-Some.first _ (sym c.in-Some.is ∙ c.read.ensures) in
    let r = c.in_ok-rest.ensures in
    record_stands a.self.mesh a.self.bytes.now a.started a.at.0 c.requires c.in-Some.first f.value r _ (omega (arith, c.record_size.ensures.value)) (omega arith)
