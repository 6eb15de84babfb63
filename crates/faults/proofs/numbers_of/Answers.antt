-- `faults::numbers_of` meets its contract, fault by fault.
-- Assumes nothing.
use Rattle.faults.proofs.numbers_of.Goals as goal

pub returns-in-Length : goal.returns-in-Length
returns-in-Length c = rw (c.place_at.ensures, c.in-Length.is)

pub returns-in-Header : goal.returns-in-Header
returns-in-Header c = rw (c.place_at-in-Header.ensures, c.in-Header.is)

pub returns-in-Directory : goal.returns-in-Directory
returns-in-Directory c = rw c.in-Directory.is

pub returns-in-Entry : goal.returns-in-Entry
returns-in-Entry c = rw (c.place_at-in-Entry.ensures, c.in-Entry.is)

pub returns-in-Block : goal.returns-in-Block
returns-in-Block c = rw (c.place_at-in-Block.ensures, c.in-Block.is)

pub returns-in-Tops : goal.returns-in-Tops
returns-in-Tops c = rw (c.place_at-in-Tops.ensures, c.in-Tops.is)
