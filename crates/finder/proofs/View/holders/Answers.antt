use mathlib.Core.Logic.{inl, inr}
use Rattle.protocol.specs.Naming.{backs}
use Rattle.protocol.specs.Finder.{tried}
use Rattle.finder.specs.Masks.{backers, holders}
use Rattle.finder.proofs.View.holders.Goals as goal

pub returns-in-First : goal.returns-in-First
unfolding backers holders backs tried
returns-in-First c = elim c.in-First.is [ inl first ↦ rw (c.requires, first) | inr third ↦ rw (c.requires, third) ]

pub returns-in-Second : goal.returns-in-Second
unfolding backers holders backs tried
returns-in-Second c = rw (c.backers.ensures, c.in-Second.is)
