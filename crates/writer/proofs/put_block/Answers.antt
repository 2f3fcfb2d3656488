-- `writer::put_block` meets its contract: the parts, one over the other, are the block.
-- Assumes nothing.
use mathlib.Core.Path.{refl, ap}
use native.Mathlib.Omega.{arith}
use lib.ListN.{length}
use lib.Seq.{length-sets}
use Rattle.writer.proofs.Given.{given_revision, given_stamps, given_all, given_lists, given_stores}
use Rattle.writer.proofs.put_block.Goals as goal

pub put_stamps-requires : goal.put_stamps-requires
put_stamps-requires c =
    let w = c.requires.writable in
    (omega (arith, given_all _ _ _ w, w.fits), given_stamps _ _ _ w)

pub overflow_cast-h : goal.overflow_cast-h
overflow_cast-h c = omega (arith, given_revision _ _ _ c.requires.writable)

pub put_lists-requires : goal.put_lists-requires
put_lists-requires c =
    let n = simp length-sets at (ap length c.put_stamps.ensures) in
    given_lists _ _ _ c.requires.writable n

pub overflow_sub-all : goal.overflow_sub-all
overflow_sub-all c = omega (arith, given_all _ _ _ c.requires.writable)

pub overflow_mul-h : goal.overflow_mul-h
overflow_mul-h c = omega (arith, given_revision _ _ _ c.requires.writable)

pub overflow_add-h : goal.overflow_add-h
overflow_add-h c = omega (arith, given_revision _ _ _ c.requires.writable, c.requires.h_bound)

pub seal-requires : goal.seal-requires
seal-requires c = let n = given_all _ _ _ c.requires.writable in (omega arith, omega (arith, c.requires.writable.fits))

pub returns : goal.returns
returns c =
    let a = c.args in
    given_stores _ _ _ c.requires.writable a.out.now refl c.put_stamps.ensures c.put_lists.ensures c.zeros.ensures
    c.seal.ensures
