mod Noted
mod CallLemmas
