-- `tensor::raw::take_patch` meets its contract. Assumes nothing.
use mathlib.Core.Path.{◌≡◌, refl}
use native.Mathlib.Omega.{arith}
use Rattle.tensor.proofs.Taking.{takes_first, takes_one, takes_two, takes_three}
use Rattle.tensor.proofs.raw.take_patch.Goals as goal

pub returns-then-flag-eq0 : goal.returns-then-flag-eq0
returns-then-flag-eq0 c =
    let a = c.args in
    let s0 = c.split_at.ensures in
    let s1 = c.split_at-then-flag-eq0.ensures in
    let s2 = c.split_at-then-flag-eq0-2.ensures in
    let s3 = c.split_at-then-flag-eq0-3.ensures in
    let s4 = c.split_at-then-flag-eq0-4.ensures in
    let t = takes_first a.n a.own.now {before = a.before} _ c.if-flag-eq0.true c.requires.all_there (cc c.copy_from_slice.ensures.after) s0.back
    s1.front s1.back s2.front s2.back s3.front s3.back s4.front s4.back in
    record { taken = t.taken; sized = t.sized; size = rw c.if-flag-eq0.true refl }

pub returns-then-flag-eq1 : goal.returns-then-flag-eq1
returns-then-flag-eq1 c =
    let a = c.args in
    let s0 = c.split_at-2.ensures in
    let s1 = c.split_at-3.ensures in
    let s2 = c.split_at-4.ensures in
    let t = takes_one a.n a.own.now c.unwrap-before.ensures c.requires.before_sized _ c.requires.all_there s0.front s0.back s1.front s1.back
    c.if-flag-eq1.true (cc (c.copy_from_slice-then-flag-eq1.ensures.after, c.copy_from_slice-then-flag-eq1-2.ensures.after)) refl s2.front in
    record { taken = t.taken; sized = t.sized; size = rw c.if-flag-eq1.true refl }

pub returns-then-flag-eq2 : goal.returns-then-flag-eq2
returns-then-flag-eq2 c =
    let a = c.args in
    let s0 = c.split_at-2.ensures in
    let s1 = c.split_at-3.ensures in
    let s2 = c.split_at-4.ensures in
    let t = takes_two a.n a.own.now c.unwrap-before.ensures c.requires.before_sized _ c.requires.all_there s0.front s0.back s1.front s1.back
    c.if-flag-eq2.true (cc (c.copy_from_slice-then-flag-eq2.ensures.after)) s2.front s2.back in
    record { taken = t.taken; sized = t.sized; size = rw c.if-flag-eq2.true refl }

pub returns : goal.returns
returns c =
    let a = c.args in
    let s0 = c.split_at-2.ensures in
    let s1 = c.split_at-3.ensures in
    let s2 = c.split_at-4.ensures in
    let three : a.flag ≡ 3 = omega arith in
    let t = takes_three a.n a.own.now c.unwrap-before.ensures c.requires.before_sized _ c.requires.all_there s0.front s0.back s1.front s1.back
    three (cc (c.copy_from_slice-2.ensures.after, c.copy_from_slice-3.ensures.after)) s2.back refl in
    record { taken = t.taken; sized = t.sized; size = rw three refl }
