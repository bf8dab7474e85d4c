-- `fraction::fraction_of` meets its contract: `written`. Assumes nothing.
use Rattle.fraction.specs.Writing.{power, power_fits, number_fits, written}
use Rattle.fraction.proofs.fraction_of.Goals as goal

pub int_to_float-result : goal.int_to_float-result
int_to_float-result c = number_fits c.requires c.number_of-x.ensures

pub int_to_float-result-2 : goal.int_to_float-result-2
int_to_float-result-2 c = rw (power c.requires) (power_fits c.requires)

pub returns : goal.returns
returns c = rw (power c.requires) (written c.requires c.number_of-x.ensures)
