mod ReportLemmas
mod HeadLemmas
mod PartLemmas
mod ClientLemmas
mod TurnLemmas
