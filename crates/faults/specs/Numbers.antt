-- Every fault's part and number; a located fault has its line beside it. Assumes nothing.
use Rattle.std.specs.Prelude.{ℕ, List, codes as bytes}
use Rattle.faults.specs.declared.ReaderFault.TheVariants.{TextTooLong, HeaderForm, MalformedNumber, HeaderLimit, ClauseCount}
use Rattle.faults.specs.declared.SheetFault.TheVariants.{NoSuchVariable, TooManyLiterals, StoreFull, Contradictory, TooManyNets, Radius, Capacity, SpaceShort}
use Rattle.faults.specs.declared.SolverFault.TheVariants.{BadSearch, NothingKept, NoVariable}
use Rattle.faults.specs.declared.NamesFault.TheVariants.{NoName}
use Rattle.faults.specs.declared.Part.{Part}
use Rattle.faults.specs.declared.Part.TheVariants.{OfReader, OfSheet, OfSolver, OfNames}
use Rattle.faults.specs.declared.Fault.{Fault}
use Rattle.faults.specs.declared.Fault.TheVariants.{Reader, Sheet, Solver, Names}

-- the refusal number
abbrev pub number_of : Fault → ℕ
number_of (Reader TextTooLong) = 1
number_of (Reader HeaderForm) = 2
number_of (Reader MalformedNumber) = 3
number_of (Reader HeaderLimit) = 4
number_of (Reader ClauseCount) = 5
number_of (Sheet NoSuchVariable) = 6
number_of (Sheet TooManyLiterals) = 7
number_of (Sheet StoreFull) = 8
number_of (Sheet Contradictory) = 9
number_of (Sheet TooManyNets) = 10
number_of (Sheet Radius) = 11
number_of (Sheet Capacity) = 12
number_of (Solver BadSearch) = 13
number_of (Solver NothingKept) = 14
number_of (Solver NoVariable) = 15
number_of (Sheet SpaceShort) = 16
number_of (Names NoName) = 17

-- the part that raised it
abbrev pub part_of : Fault → Part
part_of (Reader f) = OfReader
part_of (Sheet f) = OfSheet
part_of (Solver f) = OfSolver
part_of (Names f) = OfNames

-- the word by which a part is printed
abbrev pub name_of : Part → List ℕ
name_of OfReader = bytes "reader"
name_of OfSheet = bytes "sheet"
name_of OfSolver = bytes "solver"
name_of OfNames = bytes "names"
