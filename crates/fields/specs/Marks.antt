-- The marks of the tree file under their letters: the first times 256 plus the second, as `letters` reads them and as the rules' tables have them.
use Rattle.std.specs.Prelude.{ℕ}

abbrev pub TR : ℕ
TR = 0x5452

abbrev pub NM : ℕ
NM = 0x4E4D

abbrev pub SB : ℕ
SB = 0x5342

abbrev pub SC : ℕ
SC = 0x5343

abbrev pub SE : ℕ
SE = 0x5345

abbrev pub SF : ℕ
SF = 0x5346

abbrev pub SI : ℕ
SI = 0x5349

abbrev pub SO : ℕ
SO = 0x534F

abbrev pub SP : ℕ
SP = 0x5350

abbrev pub SR : ℕ
SR = 0x5352

abbrev pub SV : ℕ
SV = 0x5356

abbrev pub SW : ℕ
SW = 0x5357

abbrev pub EA : ℕ
EA = 0x4541

abbrev pub EC : ℕ
EC = 0x4543

abbrev pub EG : ℕ
EG = 0x4547

abbrev pub EI : ℕ
EI = 0x4549

abbrev pub EL : ℕ
EL = 0x454C

abbrev pub EP : ℕ
EP = 0x4550

abbrev pub ES : ℕ
ES = 0x4553

abbrev pub EU : ℕ
EU = 0x4555

abbrev pub EV : ℕ
EV = 0x4556
