use Rattle.std.specs.Iterator.Adapters.{enumerate_source, enumerate_count, zip_first, zip_second}
use Rattle.std.specs.Slice.Iter.{iter_rest}
use Rattle.sheet.proofs.Counting.{Counting}
use Rattle.sheet.proofs.sweep.count.Given as goal

abbrev pub invariant-loop-v : goal.invariant-loop-v
invariant-loop-v l =
    Counting l.before l.after (iter_rest (zip_first (enumerate_source l.v-iterator))) (iter_rest (zip_second (enumerate_source l.v-iterator))) (enumerate_count l.v-iterator) l.counts.fixed l.counts.tied
