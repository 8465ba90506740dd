mod SetupLaws
mod PlanMade
mod Answers
mod Booked
