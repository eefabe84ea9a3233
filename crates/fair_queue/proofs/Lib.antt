mod CountLemmas
mod FairLemmas
mod ItemLemmas
mod RunLemmas
mod TurnLemmas
