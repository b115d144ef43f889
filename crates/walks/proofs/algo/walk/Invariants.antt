-- The digits to r are still those of the cell, and whatever finishes the walk from here finishes the whole.
use Rattle.index.specs.Layout.{res_of}
use Rattle.walks.proofs.Walks.{Walking}
use Rattle.walks.proofs.algo.walk.Given as goal

abbrev pub invariant-loop-r : goal.invariant-loop-r
invariant-loop-r l = Walking l.fn.c (res_of l.fn.c) l.fn.d l.n l.r l.way
