-- Each call's contract is the equation that is claimed. Assumes nothing.
use Rattle.promises.specs.Library.{library}
use Rattle.promises.specs.Tied.{Tied}

pub tied : Tied library
tied = record {
  start = λ κs a r e h. h;
  add = λ κs a r e h. h;
  load = λ κs a r e h. h;
  store = λ κs a r e h. h;
  remove = λ κs a r e h. h;
  check = λ κs a r e h. h;
  look = λ κs a r e h. h;
  count = λ κs a r e h. h;
  lowest_free = λ κs a r e h. h;
  digest = λ κs a r e h. h;
  mac = λ κs a r e h. h;
  pack = λ κs a r e h. h;
  unpack = λ κs a r e h. h;
  compare = λ κs a r e h. h;
  bench = λ κs a r e h. h;
}
