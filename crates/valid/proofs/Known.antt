-- The known step, shown.
use Rattle.valid.specs.Valid.{make_valid}
use Rattle.valid.specs.Known.{LastDescriptor}

pub last_descriptor : LastDescriptor
unfolding make_valid
last_descriptor m allowed invalid = (rw (allowed, invalid), rw allowed)
